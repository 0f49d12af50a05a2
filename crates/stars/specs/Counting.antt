-- The elements of star rows, found by arithmetic.
use Rattle.std.specs.Prelude.{◌≡◌, ℕ, zero, suc, ◌+◌, ◌-◌, ◌*◌, ◌/◌, ◌%◌, ◌<◌, ◌≤◌, true, false, ◌&&◌, List, [], ◌∷◌, length, Some, None, nat_le, slice_index_or, refl}
use Rattle.std.proofs.Common.{sym, ap, ◌∙◌, inl, inr, mod-lt, arith, lit<}
use Rattle.std.proofs.Math.Nat.{div-add-mod}
use Rattle.std.proofs.lemmas.Option.{slice_get_past}
use Rattle.std.proofs.lemmas.Bool.{cases_Bool, cond-true, cond-false, and_parts, le-leb, leb-true, leb-false}
use Rattle.std.specs.List.{slice_get}
use Rattle.sky.specs.Stars.{Row}
use Rattle.store.specs.Contents.{fixed, inside}
use Rattle.stars.specs.Facts.{facts, star_element, stars_of, Placed}
use Rattle.stars.specs.Parts.{part_of}

-- three elements on
nth_three : {A : Type 0} (a b c : A) (xs : List A) (n : ℕ) → slice_get (a ∷ (b ∷ (c ∷ xs))) (3 + n) ≡ slice_get xs n
nth_three a b c xs n = ap (slice_get (a ∷ (b ∷ (c ∷ xs)))) (let e : 3 + n ≡ suc (suc (suc n)) = omega arith in e)

row_on : (k p : ℕ) → 3 * suc k + p ≡ 3 + (3 * k + p)
row_on k p = omega arith

at_first : (r : Row) (rs : List Row) (p : ℕ) → p < 3 → slice_get (facts (r ∷ rs)) p ≡ Some (fixed (part_of r p))
at_first r rs zero h = refl
at_first r rs (suc zero) h = refl
at_first r rs (suc (suc zero)) h = refl
at_first r rs (suc (suc (suc n))) h = absurd (omega arith)

-- part p of row k
pub fact_at : (rs : List Row) (k p : ℕ) (d : Row) → k < length rs → p < 3 → slice_get (facts rs) (3 * k + p) ≡ Some (fixed (part_of (slice_index_or rs k d) p))
fact_at [] k p d h q = absurd (omega arith)
fact_at (r ∷ rs) zero p d h q = ap (slice_get (facts (r ∷ rs))) (let e : 3 * zero + p ≡ p = omega arith in e) ∙ at_first r rs p q
fact_at (r ∷ rs) (suc k) p d h q = ap (slice_get (facts (r ∷ rs))) (row_on k p) ∙ nth_three _ _ _ (facts rs) (3 * k + p) ∙ fact_at rs k p d (omega arith) q

facts_length : (rs : List Row) → length (facts rs) ≡ 3 * length rs
facts_length [] = refl
facts_length (r ∷ rs) = let e = facts_length rs in omega arith

-- the element at an index from 100 on
from_first : (rs : List Row) (i n : ℕ) → i ≡ 100 + n → star_element rs i ≡ slice_get (facts rs) n
from_first rs i n e = cond-true _ _ _ (le-leb 100 i (omega arith)) ∙ ap (slice_get (facts rs)) (let q : i - 100 ≡ n = omega arith in q)

pub rows_placed : (rs : List Row) → Placed rs (stars_of rs)
rows_placed rs = record {
  name = λ k d h. from_first rs (100 + 3 * k) (3 * k + 0) (omega arith) ∙ fact_at rs k 0 d h (lit< tt);
  ascension = λ k d h. from_first rs (100 + 3 * k + 1) (3 * k + 1) (omega arith) ∙ fact_at rs k 1 d h (lit< tt);
  declination = λ k d h. from_first rs (100 + 3 * k + 2) (3 * k + 2) (omega arith) ∙ fact_at rs k 2 d h (lit< tt);
}

-- what lies between the limits
pub record Within (rs : List Row) (i : ℕ) : Type 0 where
  pub first : 100 ≤ i
  pub row : (i - 100) / 3 < length rs

pub within : (rs : List Row) (i : ℕ) → inside (stars_of rs) i ≡ true → Within rs i
within rs i h =
    let p = and_parts (nat_le 100 i) (nat_le i (99 + 3 * length rs)) h in
    let a = leb-true 100 i p.0 in
    let b = leb-true i (99 + 3 * length rs) p.1 in
    record { first = a; row = omega (arith, div-add-mod (i - 100) 3) }

-- row (i - 100) / 3, part (i - 100) % 3
pub element_at : (rs : List Row) (i : ℕ) (d : Row) → inside (stars_of rs) i ≡ true → star_element rs i ≡ Some (fixed (part_of (slice_index_or rs ((i - 100) / 3) d) ((i - 100) % 3)))
element_at rs i d h =
    let w = within rs i h in
    let n = i - 100 in
    from_first rs i n (omega (arith, w.first))
    ∙ ap (slice_get (facts rs)) (sym (div-add-mod n 3))
    ∙ fact_at rs (n / 3) (n % 3) d w.row (mod-lt n (lit< tt))

before : (rs : List Row) (i : ℕ) → nat_le 100 i ≡ false → star_element rs i ≡ None
before rs i h = cond-false _ _ _ h

behind : (rs : List Row) (i : ℕ) → nat_le 100 i ≡ true → nat_le i (99 + 3 * length rs) ≡ false → star_element rs i ≡ None
behind rs i h k =
    cond-true _ _ _ h
    ∙ slice_get_past (facts rs) (i - 100) (omega (arith, facts_length rs, leb-true 100 i h, leb-false i (99 + 3 * length rs) k))

pub nothing_outside : (rs : List Row) (i : ℕ) → inside (stars_of rs) i ≡ false → star_element rs i ≡ None
nothing_outside rs i h =
    elim (cases_Bool (nat_le 100 i)) [
      | inl a ↦ behind rs i a (sym (ap (λ b. b && nat_le i (99 + 3 * length rs)) a) ∙ h)
      | inr a ↦ before rs i a
    ]
