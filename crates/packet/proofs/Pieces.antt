-- The fields of a packet have no reserved byte, and are UTF-8.
use Rattle.std.proofs.Common.{◌≡◌, ℕ, ◌+◌, ◌-◌, ◌<◌, ◌≤◌, Bool, true, false, cond, not, ◌||◌, eqb, ltb, leb, List, [], ◌∷◌, ◌++◌, length, get_or, drop, Ok, Err, IsUtf8, Result, sym, refl, ap, ◌∙◌, subst, ⊎_elim, append_assoc, append-nil, arith, length-append}
use Rattle.std.specs.List.{AllByRecursion}
use Rattle.std.proofs.lemmas.List.{take_at, drop_at, drop-drop, get_or_at}
use Rattle.std.proofs.lemmas.Bool.{and_parts, and_from, not-true, or_parts, or_from, cases_Bool, eqb-true}
use Rattle.std.proofs.lemmas.Str.{IsUtf8-take, IsUtf8-drop, IsUtf8-between, IsCharBoundary-before_ascii, IsCharBoundary-after_ascii}
use Rattle.protocol.specs.Texts.{reserved, free, utf8}
use Rattle.protocol.specs.declared.refusal.Refusal.{Refusal}
use Rattle.protocol.specs.declared.refusal.Refusal.TheVariants as R
use Rattle.protocol.proofs.PlainText.{utf8_decides}
use Rattle.field.specs.Fields.{onto, fields}
use Rattle.field.specs.Frames.{plain, inside, framed, fields_of}
use Rattle.field.proofs.Splits.{fields_some}
use Rattle.field.proofs.Braces.{from_framed}

-- what a field may hold
pub record Piece (f : List ℕ) : Type 0 where
  pub bare : free f ≡ true
  pub text : IsUtf8 f

-- bytes with no brace are free of reserved bytes, colon by colon
onto_free : (b : ℕ) (fs : List (List ℕ)) → not (reserved b) ≡ true → AllByRecursion (λ f. free f ≡ true) fs → AllByRecursion (λ f. free f ≡ true) (onto b fs)
onto_free b [] h a = (and_from _ _ h refl, tt)
onto_free b (f ∷ fs) h a = (and_from _ _ h a.0, a.1)

pub fields_free : (bs : List ℕ) → plain bs ≡ true → AllByRecursion (λ f. free f ≡ true) (fields bs)
fields_free [] h = (refl, tt)
fields_free (b ∷ bs) h =
    let p = and_parts (not (eqb b 123 || eqb b 125)) (plain bs) h in
    let rest = fields_free bs p.1 in
    step b bs p.0 rest (eqb b 58) refl
  where
    step : (b : ℕ) (bs : List ℕ) → not (eqb b 123 || eqb b 125) ≡ true → AllByRecursion (λ f. free f ≡ true) (fields bs) → (t : Bool) → eqb b 58 ≡ t → AllByRecursion (λ f. free f ≡ true) (cond t ([] ∷ fields bs) (onto b (fields bs)))
    step b bs h rest true e = (refl, rest)
    step b bs h rest false e =
        let q = or_parts (eqb b 123) (eqb b 125) (not-true _ h) in
        let r : reserved b ≡ false = or_from _ _ q.0 (or_from _ _ q.1 e) in
        onto_free b (fields bs) (ap not r) rest

-- the first field is a text behind what stands in front of it, and the others are texts
abbrev Behind : List ℕ → List (List ℕ) → Type 0
Behind before [] = Unit {0}
Behind before (f ∷ fs) = IsUtf8 (before ++ f) × AllByRecursion IsUtf8 fs

onto_behind : (before : List ℕ) (b : ℕ) (fs : List (List ℕ)) → 0 < length fs → Behind (before ++ (b ∷ [])) fs → Behind before (onto b fs)
onto_behind before b [] some h = absurd (omega arith)
onto_behind before b (f ∷ fs) some h = (subst IsUtf8 (append_assoc before (b ∷ []) f) h.0, h.1)

from_behind : (fs : List (List ℕ)) → Behind [] fs → AllByRecursion IsUtf8 fs
from_behind [] h = tt
from_behind (f ∷ fs) h = (h.0, h.1)

-- the two sides of a colon in a text are texts
colon_sides : (before bs : List ℕ) → IsUtf8 (before ++ (58 ∷ bs)) → IsUtf8 before × IsUtf8 bs
colon_sides before bs u =
    let all = before ++ (58 ∷ bs) in
    let n = length before in
    let l : length (before ++ (58 ∷ bs)) ≡ length before + length (58 ∷ bs) = length-append before (58 ∷ bs) in
    let at : get_or (before ++ (58 ∷ bs)) (length before) 0 ≡ 58 = get_or_at before 58 bs 0 (length before) refl in
    let in' : length before < length (before ++ (58 ∷ bs)) = omega arith in
    let after : drop (length before + 1) (before ++ (58 ∷ bs)) ≡ bs = sym (drop-drop 1 n all) ∙ ap (drop 1) (drop_at before (58 ∷ bs) n refl) in (
      subst IsUtf8 (take_at before (58 ∷ bs) n refl) (IsUtf8-take all n u (IsCharBoundary-before_ascii all n in' (omega arith))),
      subst IsUtf8 after (IsUtf8-drop all (n + 1) u (IsCharBoundary-after_ascii all n u in' (omega arith))),
    )

texts_behind : (before bs : List ℕ) → IsUtf8 (before ++ bs) → Behind before (fields bs)
texts_behind before [] u = (u, tt)
texts_behind before (b ∷ bs) u =
    ⊎_elim
    (λ e. let s = colon_sides before bs (subst (λ c. IsUtf8 (before ++ (c ∷ bs))) (eqb-true b 58 e) u) in
    rw e (subst IsUtf8 (sym (append-nil before)) s.0, from_behind (fields bs) (texts_behind [] bs s.1)))
    (λ e. rw e (onto_behind before b (fields bs) (fields_some bs) (texts_behind (before ++ (b ∷ [])) bs (subst IsUtf8 (sym (append_assoc before (b ∷ []) bs)) u))))
    (cases_Bool (eqb b 58))

both : (fs : List (List ℕ)) → AllByRecursion (λ f. free f ≡ true) fs → AllByRecursion IsUtf8 fs → AllByRecursion Piece fs
both [] a b = tt
both (f ∷ fs) a b = (record { bare = a.0; text = b.0 }, both fs a.1 b.1)

pub fields_pieces : (bs : List ℕ) → plain bs ≡ true → IsUtf8 bs → AllByRecursion Piece (fields bs)
fields_pieces bs p u = both (fields bs) (fields_free bs p) (from_behind (fields bs) (texts_behind [] bs u))

-- what a test that was passed leaves
passed_by : {X E : Type 0} (t : Bool) (e : E) (r : Result X E) (x : X) → cond t (Err e) r ≡ Ok x → r ≡ Ok x
passed_by true e r x h = cc
passed_by false e r x h = h

pub passed_on : {X E : Type 0} (t : Bool) (r : Result X E) (e : E) (x : X) → cond t r (Err e) ≡ Ok x → (t ≡ true) × (r ≡ Ok x)
passed_on true r e x h = (refl, h)
passed_on false r e x h = cc

inside_text : (bs : List ℕ) → framed bs ≡ true → utf8 bs ≡ true → IsUtf8 (inside bs)
inside_text bs h t =
    let f = from_framed bs h in
    let u = (utf8_decides bs).0 t in
    let l : 2 ≤ length bs = f.long in
    IsUtf8-between bs 1 (length bs - 1) u (omega arith)
    (IsCharBoundary-after_ascii bs 0 u (omega arith) (omega (arith, f.opens)))
    (IsCharBoundary-before_ascii bs (length bs - 1) (omega arith) (omega (arith, f.shuts)))

inside_plain : (bs : List ℕ) → framed bs ≡ true → plain (inside bs) ≡ true
inside_plain bs h =
    let p = and_parts (leb 2 (length bs)) _ h in
    let q = and_parts (eqb (get_or bs 0 0) 123) _ p.1 in
    (and_parts (eqb (get_or bs (length bs - 1) 0) 125) _ q.1).1

-- so are the fields of a packet that has a frame
pub frame_pieces : (bs : List ℕ) (fs : List (List ℕ)) → fields_of bs ≡ Ok fs → AllByRecursion Piece fs
frame_pieces bs fs e =
    let a = passed_on (framed bs) (cond (utf8 bs) (Ok (fields (inside bs))) (Err R.NotUtf8)) R.Frame fs (passed_by (ltb 512 (length bs)) R.TooLong _ fs e) in
    let b = passed_on (utf8 bs) (Ok (fields (inside bs))) R.NotUtf8 fs a.1 in
    let same : fields (inside bs) ≡ fs = let o : ◌≡◌ {A = Result (List (List ℕ)) Refusal} (Ok (fields (inside bs))) (Ok fs) = b.1 in cc in
    subst (AllByRecursion Piece) same (fields_pieces (inside bs) (inside_plain bs a.0) (inside_text bs a.0 b.0))
