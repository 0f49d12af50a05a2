-- What a decimal keeps: its normal form, and a power of ten that its range bounds.
use Rattle.std.proofs.Common.{◌≡◌, ◌%◌, ◌^◌, ◌<◌, true, not, eqb, ltb, ◌⊎◌, ℤ, pos, negsuc, ◌+ℤ◌, ◌≤ℤ◌, Some, sym, ap, ◌∙◌, subst, inl, inr, arith}
use lib.Signed.{le_z}
use Rattle.std.proofs.lemmas.Int.{ints}
use Rattle.std.proofs.lemmas.Bool.{cases_eq, and_parts, or_cases, cond-true, eqb-true, eq-eqb, ltb-true, not-true}
use Rattle.std.proofs.lemmas.Bool.Decides.{nat_tests}
use Rattle.protocol.specs.Texts.{textual}
use Rattle.decimal.specs.declared.real.Real.{Real}
use Rattle.decimal.specs.Normal.{Normal, nought, is_zero, in_form}
use Rattle.decimal.specs.Range.{inside, passing, within_of, at_most, is_end}
use Rattle.decimal.specs.Spelling.{spelling}
use Rattle.decimal.specs.Views.{real_of}
use Rattle.decimal.specs.declared.ranged.Ranged.{Ranged}
use Rattle.decimal.proofs.Backs.{real_reads_back}
use Rattle.decimal.proofs.Plain.{spelling_textual}
use Rattle.decimal.proofs.Sizes.{near}

at_zero : (z : ℤ) → le_z (pos 0) z ≡ true → le_z z (pos 0) ≡ true → z ≡ pos 0
at_zero z a b = grind (arith, ints)

pub is_nought : (d : Real) → is_zero d ≡ true → d ≡ nought
is_nought d t =
    let p = and_parts (eqb d.digits 0) _ t in
    let q = and_parts (not d.negative) _ p.1 in
    let r = and_parts (le_z (pos 0) d.exponent) _ q.1 in
    let a = not-true d.negative q.0 in
    let b = eqb-true d.digits 0 p.0 in
    let e = at_zero d.exponent r.0 r.1 in
    λ i. record { negative = a i; digits = b i; exponent = e i }

pub last_digit : (d : Real) → in_form d ≡ true → d.digits % 10 ≡ 0 → d ≡ nought
last_digit d f z = is_nought d (sym (cond-true _ _ _ (eq-eqb (d.digits % 10) 0 z)) ∙ (and_parts (ltb d.digits (10 ^ 18)) _ f).1)

pub short_digits : (d : Real) → in_form d ≡ true → d.digits < 10 ^ 18
short_digits d f = ltb-true _ _ (and_parts (ltb d.digits (10 ^ 18)) _ f).0

zero_nought : (d : Real) → in_form d ≡ true → d.digits ≡ 0 → d ≡ nought
zero_nought d f z = last_digit d f (ap (λ n. n % 10) z)

-- a real in a range lies near its ends
bounded : (least most d : Real) → 0 < least.digits → most.digits < 10 ^ 18 → in_form d ≡ true → inside least most d ≡ true → (d ≡ nought) ⊎ ((least.exponent ≤ℤ (d.exponent +ℤ pos 18)) × (d.exponent ≤ℤ (most.exponent +ℤ pos 18)))
bounded least most d a b f i =
    elim (cases_eq d.digits 0) [
      | inl z ↦ inl (zero_nought d f z)
      | inr z ↦
          elim (or_cases (eqb d.digits 0) _ i) [
            | inl t ↦ absurd (z (eqb-true d.digits 0 t))
            | inr t ↦
                let p = and_parts (at_most least d) _ t in
                inr (near least d a (short_digits d f) p.0, near d most (omega arith) b p.1)
          ]
    ]

-- what is known of a decimal
pub record Kept (d : Real) : Type 0 where
  pub normal : Normal d
  pub low : negsuc 399 ≤ℤ d.exponent
  pub high : d.exponent ≤ℤ pos 400

pub kept_by : (d : Real) → in_form d ≡ true → negsuc 399 ≤ℤ d.exponent → d.exponent ≤ℤ pos 400 → Kept d
kept_by d f a b = record { normal = record { short = short_digits d f; last = last_digit d f; low = omega (arith, ints); high = omega (arith, ints) }; low = a; high = b }

kept_nought : (d : Real) → in_form d ≡ true → d ≡ nought → Kept d
kept_nought d f e = kept_by d f (subst (λ x. negsuc 399 ≤ℤ x.exponent) (sym e) (omega (arith, ints))) (subst (λ x. x.exponent ≤ℤ pos 400) (sym e) (omega (arith, ints)))

-- a decimal in a reach
pub kept : (least most d : Real) → is_end least ≡ true → is_end most ≡ true → in_form d ≡ true → inside least most d ≡ true → Kept d
kept least most d a b f i =
    elim (bounded least most d (grind (arith, nat_tests, a)) (grind (arith, nat_tests, b)) f i) [
      | inl e ↦ kept_nought d f e
      | inr r ↦ kept_by d f (grind (arith, ints, nat_tests, a, r.0)) (grind (arith, ints, nat_tests, b, r.1))
    ]

pub spelled_textual : (d : Real) → Kept d → textual (spelling d) ≡ true
spelled_textual d k = spelling_textual d k.normal k.low k.high

-- a decimal's spelling reads back as the decimal
pub within_back : (least most d : Real) → Kept d → inside least most d ≡ true → within_of least most (spelling d) ≡ Some d
within_back least most d k i = ap (passing (inside least most)) (real_reads_back d k.normal k.low k.high) ∙ cond-true _ _ _ i

-- what is known of a decimal in any reach, as Single and Decimal
pub ranged_kept : {R B : _} (d : Ranged R B) → Kept (real_of d)
ranged_kept {R} {B} d = kept B.LEAST B.MOST d.real.real B.least_fits B.most_fits d.real.normal d.within

pub ranged_textual : {R B : _} (d : Ranged R B) → textual (spelling (real_of d)) ≡ true
ranged_textual d = spelled_textual (real_of d) (ranged_kept d)

pub ranged_back : {R B : _} (d : Ranged R B) → within_of B.LEAST B.MOST (spelling (real_of d)) ≡ Some (real_of d)
ranged_back {R} {B} d = within_back B.LEAST B.MOST (real_of d) (ranged_kept d) d.within
