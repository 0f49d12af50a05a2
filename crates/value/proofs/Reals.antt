-- What a text of at most 40 bytes reads as is a real in its normal form, so that its spelling reads as the same.
use Rattle.std.proofs.Common.{◌≡◌, ℕ, zero, suc, ◌+◌, ◌*◌, ◌/◌, ◌%◌, ◌^◌, ◌<◌, ◌≤◌, Bool, true, false, cond, eqb, ltb, List, [], ◌++◌, length, get_or, take, drop, ℤ, pos, ◌+ℤ◌, ◌-ℤ◌, Some, None, Option, sym, refl, ap, ◌∙◌, subst, inl, inr, mul_comm, pow-suc, arith, length-append, length-drop}
use native.Mathlib.Nat.{div-div-eq-div-mul}
use Rattle.std.specs.Str.Parse.{digits_value}
use Rattle.std.specs.Str.{all_ascii_digits}
use Rattle.std.proofs.lemmas.List.{take-append-drop}
use Rattle.std.proofs.lemmas.Str.Parse.{digits_value_short}
use Rattle.std.proofs.lemmas.Bool.{cases_Bool, cond-true, cond-false, eqb-true, eqb-false, ltb-true}
use Rattle.std.proofs.lemmas.Bool.Decides.{nat_tests}
use Rattle.protocol.specs.Texts.{textual}
use Rattle.decimal.specs.Normal.{in_form, nought}
use Rattle.decimal.specs.Range.{passing, inside, is_end, within_of}
use Rattle.decimal.specs.Reading.{run_of, tens_of, tens, normal, power_read, at_power, at_point, at_whole, unsigned_of, decimal_of}
use Rattle.decimal.specs.Spelling.{spelling}
use Rattle.decimal.specs.declared.real.Real.{Real}
use Rattle.decimal.proofs.Backs.{all_append}
use Rattle.decimal.proofs.Forms.{kept, spelled_textual, within_back}
use Rattle.decimal.proofs.Readings.{run_digits}
use Rattle.protocol.proofs.Digits.{own}

-- no zero is left at the end once all are taken off
clear : (k m : ℕ) → 0 < m → m < 10 ^ k → m / 10 ^ tens_of k m % 10 ≡ 0 → ⊥
clear zero m p l e = omega arith
clear (suc k) m p l e =
    let q = pow-suc 10 k in
    elim (cases_Bool (eqb (m % 10) 0)) [
      | inl t ↦
          let z = eqb-true (m % 10) 0 t in
          let u : tens_of (suc k) m ≡ suc (tens_of k (m / 10)) = cond-true _ _ _ t in
          let w : 10 ^ suc (tens_of k (m / 10)) ≡ 10 * 10 ^ tens_of k (m / 10) = pow-suc 10 (tens_of k (m / 10)) ∙ mul_comm (10 ^ tens_of k (m / 10)) 10 in
          let s : m / 10 ^ tens_of (suc k) m ≡ m / 10 / 10 ^ tens_of k (m / 10) =
          ap (λ x. m / 10 ^ x) u ∙ ap (λ x. m / x) w ∙ sym (div-div-eq-div-mul m 10 (10 ^ tens_of k (m / 10))) in
          clear k (m / 10) (omega arith) (omega arith) (ap (λ x. x % 10) (sym s) ∙ e)
      | inr t ↦
          let u : tens_of (suc k) m ≡ 0 = cond-false _ _ _ t in
          let s : m / 10 ^ tens_of (suc k) m ≡ m = ap (λ x. m / 10 ^ x) u ∙ omega arith in
          eqb-false (m % 10) 0 t (ap (λ x. x % 10) (sym s) ∙ e)
    ]

tens_clear : (m : ℕ) → 0 < m → m < 10 ^ 40 → m / 10 ^ tens m % 10 ≡ 0 → ⊥
unfolding tens
tens_clear m p l e = clear 40 m p l e

form_parts : (d : Real) → d.digits < 10 ^ 18 → (d.digits % 10 ≡ 0 → ⊥) → in_form d ≡ true
form_parts d l n = grind (arith, nat_tests)

normal_form : (s : Bool) (m : ℕ) (x : ℤ) (d : Real) → m < 10 ^ 40 → normal s m x ≡ Some d → in_form d ≡ true
normal_form s m x d l e =
    elim (cases_Bool (eqb m 0)) [
      | inl t ↦ let r : Some nought ≡ Some d = sym (cond-true _ _ _ t) ∙ e in let q : nought ≡ d = cc in subst (λ y. in_form y ≡ true) q refl
      | inr t ↦
          let n : Real = record { negative = s; digits = m / 10 ^ tens m; exponent = x +ℤ pos (tens m) } in
          let f : cond (ltb (m / 10 ^ tens m) (10 ^ 18)) (Some n) None ≡ Some d = sym (cond-false _ _ _ t) ∙ e in
          elim (cases_Bool (ltb (m / 10 ^ tens m) (10 ^ 18))) [
            | inl b ↦
                let r : Some n ≡ Some d = sym (cond-true _ _ _ b) ∙ f in
                let q : n ≡ d = cc in
                subst (λ y. in_form y ≡ true) q (form_parts n (ltb-true _ _ b) (tens_clear m (omega (arith, eqb-false m 0 t)) l))
            | inr b ↦ cc (sym (cond-false _ _ _ b) ∙ f)
          ]
    ]

run_parts : (ds : List ℕ) → length (take (run_of ds) ds) + length (drop (run_of ds) ds) ≡ length ds
run_parts ds = sym (length-append (take (run_of ds) ds) (drop (run_of ds) ds)) ∙ ap length (take-append-drop (run_of ds) ds)

power_form : (s : Bool) (whole fraction : List ℕ) (o : Option ℤ) (d : Real) → all_ascii_digits whole ≡ true → all_ascii_digits fraction ≡ true → length whole + length fraction ≤ 40 → at_power s whole fraction o ≡ Some d → in_form d ≡ true
power_form s whole fraction None d a b l e = cc
power_form s whole fraction (Some x) d a b l e =
    normal_form s (digits_value 10 (whole ++ fraction)) (x -ℤ pos (length fraction)) d
    (digits_value_short own (whole ++ fraction) 40 (all_append whole fraction a b) (simp length-append l))
    e

point_form : (s : Bool) (whole rest : List ℕ) (d : Real) → all_ascii_digits whole ≡ true → length whole + length rest ≤ 40 → at_point s whole rest ≡ Some d → in_form d ≡ true
point_form s whole rest d a l e =
    elim (cases_Bool (eqb (run_of rest) 0)) [
      | inl t ↦ cc (sym (cond-true _ _ _ t) ∙ e)
      | inr t ↦ power_form s whole (take (run_of rest) rest) (power_read (drop (run_of rest) rest)) d a (run_digits rest) (omega (arith, run_parts rest)) (sym (cond-false _ _ _ t) ∙ e)
    ]

drop_one : (bs : List ℕ) → length (drop 1 bs) ≤ length bs
drop_one bs = simp length-drop (omega arith)

whole_form : (s : Bool) (whole rest : List ℕ) (d : Real) → all_ascii_digits whole ≡ true → length whole + length rest ≤ 40 → at_whole s whole rest ≡ Some d → in_form d ≡ true
whole_form s whole rest d a l e =
    elim (cases_Bool (eqb (get_or rest 0 0) 46)) [
      | inl t ↦ point_form s whole (drop 1 rest) d a (omega (arith, drop_one rest)) (sym (cond-true _ _ _ t) ∙ e)
      | inr t ↦ power_form s whole [] (power_read rest) d a refl (omega arith) (sym (cond-false _ _ _ t) ∙ e)
    ]

unsigned_form : (s : Bool) (bs : List ℕ) (d : Real) → length bs ≤ 40 → unsigned_of s bs ≡ Some d → in_form d ≡ true
unsigned_form s bs d l e =
    elim (cases_Bool (eqb (run_of bs) 0)) [
      | inl t ↦ cc (sym (cond-true _ _ _ t) ∙ e)
      | inr t ↦ whole_form s (take (run_of bs) bs) (drop (run_of bs) bs) d (run_digits bs) (omega (arith, run_parts bs)) (sym (cond-false _ _ _ t) ∙ e)
    ]

pub decimal_form : (bs : List ℕ) (d : Real) → length bs ≤ 40 → decimal_of bs ≡ Some d → in_form d ≡ true
decimal_form bs d l e =
    elim (cases_Bool (eqb (get_or bs 0 0) 45)) [
      | inl t ↦ unsigned_form true (drop 1 bs) d (omega (arith, drop_one bs)) (sym (cond-true _ _ _ t) ∙ e)
      | inr t ↦ unsigned_form false bs d l (sym (cond-false _ _ _ t) ∙ e)
    ]

passed : (test : Real → Bool) (o : Option Real) (d : Real) → passing test o ≡ Some d → (o ≡ Some d) × (test d ≡ true)
passed test None d e = cc
passed test (Some x) d e =
    elim (cases_Bool (test x)) [
      | inl t ↦ let r : Some x ≡ Some d = sym (cond-true _ _ _ t) ∙ e in let q : x ≡ d = cc in (r, subst (λ y. test y ≡ true) q t)
      | inr t ↦ cc (sym (cond-false _ _ _ t) ∙ e)
    ]

-- what a text reads as has a spelling that is a text and reads as the same
pub within_again : (least most : Real) (bs : List ℕ) (d : Real) → is_end least ≡ true → is_end most ≡ true → length bs ≤ 40 → within_of least most bs ≡ Some d → (textual (spelling d) ≡ true) × (within_of least most (spelling d) ≡ Some d)
within_again least most bs d a b l e =
    let p = passed (inside least most) (decimal_of bs) d e in
    let k = kept least most d a b (decimal_form bs d l p.0) p.1 in
    (spelled_textual d k, within_back least most d k p.1)
