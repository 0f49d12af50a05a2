-- A colon ends a field, and the place of what stands around it.
use Rattle.std.proofs.Common.{◌≡◌, ℕ, suc, ◌+◌, ◌-◌, ◌<◌, ◌≤◌, eqb, List, [], ◌∷◌, ◌++◌, length, get_or, take, drop, Some, None, is_some, not, Option, sym, refl, ap, ◌∙◌, append_assoc, arith, length-append, Bor, MatchOption}
use Rattle.std.proofs.lemmas.List.{take_at, take-take, drop_at, drop-drop, drop-take}
use Rattle.std.proofs.lemmas.Str.Pattern.{IsSplitOnceResult, split_parts}
use Rattle.std.proofs.lemmas.Bool.{ne_eqb, cond_both}
use Rattle.std.specs.Iterator.{YieldsFirstBy, MakesProgress, item_count}
use Rattle.field.specs.declared.part.Part.{Part}
use Rattle.field.specs.Fields.{fields, onto}
use Rattle.field.specs.Parts.{part_bytes, fields_in}

-- the byte c is not in bs
abbrev pub Free : ℕ → List ℕ → Type 0
Free c bs = (i : ℕ) → i < length bs → get_or bs i 0 ≡ c → ⊥

pub free_first : (c b : ℕ) (bs : List ℕ) → Free c (b ∷ bs) → b ≡ c → ⊥
free_first c b bs h e = h 0 (omega arith) e

pub free_rest : (c b : ℕ) (bs : List ℕ) → Free c (b ∷ bs) → Free c bs
free_rest c b bs h i l e = h (suc i) (omega arith) e

pub fields_last : (xs : List ℕ) → Free 58 xs → fields xs ≡ xs ∷ []
fields_last [] h = refl
fields_last (x ∷ xs) h = rw (ne_eqb x 58 (free_first 58 x xs h), fields_last xs (free_rest 58 x xs h))

pub fields_more : (xs ys : List ℕ) → Free 58 xs → fields (xs ++ 58 ∷ ys) ≡ xs ∷ fields ys
fields_more [] ys h = refl
fields_more (x ∷ xs) ys h = rw (ne_eqb x 58 (free_first 58 x xs h), fields_more xs ys (free_rest 58 x xs h))

-- what `split_once(':')` says of the fields
pub split_is : (bs : List ℕ) (r : Option (Bor (List ℕ) × Bor (List ℕ))) → IsSplitOnceResult 58 bs r → MatchOption r (fields bs ≡ bs ∷ []) (λ x. fields bs ≡ x.0.now ∷ fields x.1.now)
split_is bs None h = fields_last bs (split_parts 58 bs None h (omega arith))
split_is bs (Some x) h = let p = split_parts 58 bs (Some x) h (omega arith) in ap fields p.0 ∙ fields_more _ _ p.1

-- there is always a field
pub fields_some : (bs : List ℕ) → 0 < length (fields bs)
fields_some [] = omega arith
fields_some (b ∷ bs) = cond_both (eqb b 58) _ _ (λ fs. 0 < length fs) (λ _. omega arith) (λ _. onto_some b (fields bs))
  where
    onto_some : (b : ℕ) (fs : List (List ℕ)) → 0 < length (onto b fs)
    onto_some b [] = omega arith
    onto_some b (f ∷ fs) = omega arith

-- the text stands in the packet in front of `end`
abbrev pub Ends : List ℕ → ℕ → List ℕ → Type 0
Ends packet end text = (length text ≤ end) × (text ≡ take (length text) (drop (end - length text) packet))

module _ (packet text f behind : List ℕ) (end : ℕ) (e : text ≡ f ++ (58 ∷ behind)) (h : Ends packet end text) where
  long : length text ≡ length f + 1 + length behind
  long = let l = ap length e ∙ length-append f (58 ∷ behind) in omega arith

  -- the two sides of a colon stand where their text stood
  pub front_ends : Ends packet (end - (length behind + 1)) f
  front_ends =
      let l : length text ≡ length f + 1 + length behind = long in
      let k : end - length text ≡ end - (length behind + 1) - length f = omega arith in (
        omega (arith, h.0),
        sym (take_at f (58 ∷ behind) (length f) refl) ∙ ap (take (length f)) (sym e ∙ h.1) ∙ take-take (length f) (length text) (drop (end - length text) packet) (omega arith)
            ∙ ap (λ m. take (length f) (drop m packet)) k,
      )

  pub behind_ends : Ends packet end behind
  behind_ends =
      let start = end - length text in
      let n = length f + 1 in
      let l : length text ≡ length f + 1 + length behind = long in
      let room : length text ≤ end = h.0 in
      let a : drop (length f + 1) text ≡ behind = ap (drop n) (e ∙ sym (append_assoc f (58 ∷ []) behind)) ∙ drop_at (f ++ (58 ∷ [])) behind n (length-append f (58 ∷ [])) in
      let b : drop (length f + 1) text ≡ take (length behind) (drop (length f + 1) (drop (end - length text) packet)) =
      ap (drop n) (h.1 ∙ ap (λ k. take k (drop start packet)) l) ∙ drop-take n (length behind) (drop start packet) in
      let k : end - length text + (length f + 1) ≡ end - length behind = omega arith in
      (omega arith, sym a ∙ b ∙ ap (take (length behind)) (drop-drop n start packet ∙ ap (λ m. drop m packet) k))

-- no field is left just where there is no rest
pub none_left : (o : Option Part) → not (is_some o) ≡ eqb (length (fields_in o)) 0
none_left None = refl
none_left (Some p) = sym (ne_eqb (length (fields (part_bytes p))) 0 (λ e. omega (arith, fields_some (part_bytes p))))

-- a cursor that hands out the first of what is left comes to its end
pub progress : {S A B : Type 0} (view : A → B) (rest : S → List B) (s : S) (r : Option A) (t : S) → YieldsFirstBy view rest s r t → MakesProgress (λ _. Unit {0}) (item_count rest) s r t
progress view rest s None t h = record { on = λ _. tt; keeps = tt; rests = λ _. tt }
progress view rest s (Some x) t h = record { on = λ _. (tt, tt, omega (arith, ap length h)); keeps = tt; rests = λ _. tt }
