-- Braces and UTF-8.
use Rattle.std.proofs.Common.{◌≡◌, ℕ, ◌+◌, ◌-◌, ◌<◌, ◌≤◌, Bool, true, false, cond, not, ◌&&◌, ◌||◌, eqb, leb, List, [], ◌∷◌, ◌++◌, length, get_or, take, drop, Some, None, Ok, Err, IsUtf8, sym, refl, ap, ◌∙◌, subst, ⊎_elim, arith, length-drop, length-take}
use Rattle.std.specs.List.{list_all}
use Rattle.std.specs.Bool.{◌==◌}
use Rattle.std.proofs.lemmas.List.{drop_more, take_more, get_or-drop, take_all}
use Rattle.std.proofs.lemmas.Str.Ascii.{IsAscii-cons, IsAscii-nil}
use Rattle.std.proofs.lemmas.Str.{IsUtf8-between, IsUtf8-append, IsUtf8-from_ascii, IsCharBoundary-after_ascii}
use Rattle.std.proofs.lemmas.Bool.{and_parts, eqb-true, cases_Bool, leb-true, le-ltb}
use Rattle.protocol.specs.Texts.{utf8}
use Rattle.protocol.specs.declared.refusal.Refusal.TheVariants.{NotUtf8}
use Rattle.protocol.proofs.PlainText.{utf8_decides}
use Rattle.field.specs.Fields.{fields}
use Rattle.field.specs.Frames.{plain, inside, framed, fields_of}
use Rattle.field.proofs.Splits.{Ends}

abbrev pub no_brace : ℕ → Bool
no_brace b = not (b == 123 || b == 125)

pub plain_all : (bs : List ℕ) → list_all no_brace bs ≡ plain bs
plain_all [] = refl
plain_all (b ∷ bs) = ap (λ t. no_brace b && t) (plain_all bs)

-- what `framed` tests of the two ends
pub record Framed (bs : List ℕ) : Type 0 where
  pub long : 2 ≤ length bs
  pub opens : get_or bs 0 0 ≡ 123
  pub shuts : get_or bs (length bs - 1) 0 ≡ 125

pub from_framed : (bs : List ℕ) → framed bs ≡ true → Framed bs
from_framed bs e =
    let p = and_parts (leb 2 (length bs)) _ e in
    let q = and_parts (eqb (get_or bs 0 0) 123) _ p.1 in
    let r = and_parts (eqb (get_or bs (length bs - 1) 0) 125) _ q.1 in
    record { long = leb-true _ _ p.0; opens = eqb-true _ _ q.0; shuts = eqb-true _ _ r.0 }

-- a framed packet is its inside between braces
pub framed_parts : (bs : List ℕ) → Framed bs → bs ≡ (123 ∷ []) ++ (inside bs ++ (125 ∷ []))
framed_parts bs f =
    let l : 2 ≤ length bs = f.long in
    let a : bs ≡ get_or bs 0 0 ∷ drop 1 bs = drop_more bs 0 0 (omega arith) in
    let b : length (drop 1 bs) ≡ length bs - 1 = length-drop 1 bs in
    let d : take (length bs - 1 - 1 + 1) (drop 1 bs) ≡ inside bs ++ get_or (drop 1 bs) (length bs - 1 - 1) 0 ∷ [] = take_more (drop 1 bs) (length bs - 1 - 1) 0 (omega arith) in
    let e : take (length bs - 1 - 1 + 1) (drop 1 bs) ≡ drop 1 bs = take_all _ (drop 1 bs) (omega arith) in
    let g : get_or (drop 1 bs) (length bs - 1 - 1) 0 ≡ 125 = get_or-drop 1 bs (length bs - 1 - 1) 0 ∙ ap (λ i. get_or bs i 0) (omega arith) ∙ f.shuts in
    a ∙ (λ i. f.opens i ∷ drop 1 bs) ∙ ap (λ t. 123 ∷ t) (sym e ∙ d ∙ ap (λ x. inside bs ++ x ∷ []) g)

ascii_one : (b : ℕ) → b < 128 → IsUtf8 (b ∷ [])
ascii_one b h = IsUtf8-from_ascii (b ∷ []) (IsAscii-cons b [] h IsAscii-nil)

inside_utf8 : (bs : List ℕ) → Framed bs → IsUtf8 bs → IsUtf8 (inside bs)
inside_utf8 bs f u =
    IsUtf8-between bs 1 (length bs - 1) u (omega (arith, f.long))
    (IsCharBoundary-after_ascii bs 0 u (omega (arith, f.long)) (omega (arith, f.opens)))
    (omega (arith, f.long), λ _ high. absurd (omega (arith, f.shuts)))

utf8_inside : (bs : List ℕ) → Framed bs → IsUtf8 (inside bs) → IsUtf8 bs
utf8_inside bs f u = subst IsUtf8 (sym (framed_parts bs f)) (IsUtf8-append _ _ (ascii_one 123 (omega arith)) (IsUtf8-append _ _ u (ascii_one 125 (omega arith))))

-- what the test of the frame leaves
pub some_framed : (b : Bool) (x y : List ℕ) → Some x ≡ cond b (Some y) None → (b ≡ true) × (x ≡ y)
some_framed true x y e = (refl, cc)
some_framed false x y e = cc

module _ (bs body : List ℕ) (short : length bs ≤ 512) (e : Some body ≡ cond (framed bs) (Some (inside bs)) None) where
  pub fields_there : (text : List ℕ) → text ≡ body → IsUtf8 body → fields_of bs ≡ Ok (fields text)
  fields_there text t u =
      let p = some_framed (framed bs) body (inside bs) e in
      let f = from_framed bs p.0 in
      let w = (utf8_decides bs).1 (utf8_inside bs f (subst IsUtf8 p.1 u)) in
      rw (le-ltb 512 (length bs) short, p.0, w, t ∙ p.1)

  pub no_text : (IsUtf8 body → ⊥) → fields_of bs ≡ Err NotUtf8
  no_text u =
      let p = some_framed (framed bs) body (inside bs) e in
      let f = from_framed bs p.0 in
      ⊎_elim (λ w. absurd (u (subst IsUtf8 (sym p.1) (inside_utf8 bs f ((utf8_decides bs).0 w)))))
      (λ w. rw (le-ltb 512 (length bs) short, p.0) (rw w))
      (cases_Bool (utf8 bs))
