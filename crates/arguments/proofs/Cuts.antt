-- Words of several parts, and what their readers give.
use Rattle.std.proofs.Common.{◌≡◌, ℕ, zero, suc, ◌+◌, ◌-◌, ◌<◌, List, [], ◌∷◌, length, get_or, take, drop, IsErrAnd, Some, None, Ok, Err, vec_items, Option, Result, sym, refl, add-one, arith}
use Rattle.std.specs.Option.{ok_or}
use Rattle.std.specs.declared.alloc.Global.{Global}
use Rattle.std.proofs.lemmas.List.{take_rest}
use Rattle.std.proofs.lemmas.Bool.{eq-eqb, ne_eqb}
use Rattle.protocol.specs.declared.kind.Kind.TheVariants as K
use Rattle.value.specs.Values.{Datum, value_read}
use Rattle.notation.specs.Strings.{word_of}
use Rattle.arguments.specs.Parts.{then, cut_at, three_of, star_of}
use Rattle.notation.specs.Readings.{Understood}
use Rattle.notation.specs.declared.trouble.Trouble.{Trouble}
use Rattle.notation.specs.declared.trouble.Trouble.TheVariants.{NotUnderstood, NoMemory}

-- no mark among the first n bytes
abbrev pub Clear : ℕ → ℕ → List ℕ → Type 0
Clear mark n bs = (k : ℕ) → k < n → get_or bs k 0 ≡ mark → ⊥

-- no mark
pub cut_none : (mark : ℕ) (bs : List ℕ) → Clear mark (length bs) bs → cut_at mark bs ≡ None
cut_none mark [] h = refl
cut_none mark (b ∷ bs) h = rw (ne_eqb b mark (h 0 (omega arith)), cut_none mark bs (λ k l. h (suc k) (omega arith)))

-- the first mark is at the place i
cut_here : (mark : ℕ) (bs : List ℕ) (i : ℕ) → i < length bs → Clear mark i bs → get_or bs i 0 ≡ mark → cut_at mark bs ≡ Some (take i bs, drop (suc i) bs)
cut_here mark [] i h clear e = absurd (omega arith)
cut_here mark (b ∷ bs) zero h clear e = rw (eq-eqb b mark e)
cut_here mark (b ∷ bs) (suc i) h clear e = rw (ne_eqb b mark (clear 0 (omega arith)), cut_here mark bs i (omega arith) (λ k l. clear (suc k) (omega arith)) e)

-- the same of the two slices, as the checker reads them
pub cut_some : (mark : ℕ) (bs : List ℕ) (i : ℕ) → i < length bs → Clear mark i bs → get_or bs i 0 ≡ mark → cut_at mark bs ≡ Some (take i bs, take (length bs - (i + 1)) (drop (i + 1) bs))
cut_some mark bs i h clear e =
    rw (take_rest bs (i + 1), add-one) (cut_here mark bs i h clear e)

-- what a reader that gave a value read
pub is_some : {X E : Type 0} (o : Option X) (t : E) (x : X) → Ok x ≡ ok_or o t → o ≡ Some x
is_some {E = E} None t x e = cc
is_some (Some y) t x e = cc

-- what a reader that gave none read
is_none : {X E : Type 0} (o : Option X) (s t : E) → Err s ≡ ok_or o t → o ≡ None
is_none None s t e = refl
is_none (Some y) s t e = cc

-- the exit of a `?` where the word means nothing
pub passed : {X Y : Type 0} (view : X → Y) (meaning : Option Y) (e : Trouble) (r : Result X Trouble) → IsErrAnd r (λ y. y ≡ e) → (e ≡ NotUnderstood → meaning ≡ None) → Understood view meaning r
passed view meaning e (Ok x) h n = absurd h
passed view meaning e (Err NotUnderstood) h n = n (sym h)
passed view meaning e (Err NoMemory) h n = tt

-- what a byte string means that was not understood
pub no_bytes : (part : Option (List ℕ)) (e : Trouble) → Understood (vec_items {Z = Global}) part (Err e) → e ≡ NotUnderstood → part ≡ None
no_bytes part NotUnderstood u n = u
no_bytes part NoMemory u n = cc

module _ {n x y : List ℕ} (word : List ℕ) (parts : three_of word ≡ Some (n, x, y)) where
  -- a star without a right ascension is none
  pub no_ascension : (e : Trouble) → Err e ≡ ok_or (value_read K.In x) NotUnderstood → star_of word ≡ None
  no_ascension e a = rw (parts, is_none _ _ _ a)

  -- nor is one without a declination
  pub no_declination : (e : Trouble) {ascension : Datum} → Ok ascension ≡ ok_or (value_read K.In x) NotUnderstood → Err e ≡ ok_or (value_read K.In y) NotUnderstood → star_of word ≡ None
  no_declination e a b = rw (parts, is_some _ _ _ a, is_none _ _ _ b)

  -- with both it is what its name makes it
  pub star_named : {ascension declination : Datum} → Ok ascension ≡ ok_or (value_read K.In x) NotUnderstood → Ok declination ≡ ok_or (value_read K.In y) NotUnderstood → star_of word ≡ then (word_of n) (λ name. Some (record { name = name; ascension = ascension; declination = declination }))
  star_named a b = rw (parts, is_some _ _ _ a, is_some _ _ _ b)
