-- Sizes of decimals, compared by 18 digits and a power of ten.
use Rattle.std.proofs.Common.{◌≡◌, ℕ, suc, ◌+◌, ◌-◌, ◌*◌, ◌^◌, ◌<◌, ◌≤◌, true, leb, ℤ, pos, negsuc, ◌+ℤ◌, ◌-ℤ◌, nat_abs, ◌≤ℤ◌, Some, sym, refl, ap, ◌∙◌, inl, inr, mul-le-mul_right, mul_assoc, mul-le-mul, mul-lt-mul_of_pos_right, pow-suc, arith, pow-add, ◌<ℤ◌, Ordering, Bool, ◌&&◌}
use native.Mathlib.Nat.{pow-le-pow_right, one-le-pow}
use Rattle.std.proofs.lemmas.Int.{ints, by_lt_z}
use Rattle.std.proofs.lemmas.Bool.{cases_lt, cases_eq, le-leb, lt-leb, leb-true}
use Rattle.std.proofs.lemmas.Bool.Decides.{nat_tests}
use Rattle.std.specs.Cmp.{nat_cmp_is, int_cmp_is}
use Rattle.std.specs.Ordering.{is_le, is_some_and, nat_cmp, int_cmp, partial_ordering_then}
use Rattle.std.specs.declared.cmp.Ordering.TheVariants.{Less, Equal, Greater}
use Rattle.decimal.specs.declared.real.Real.{Real}
use Rattle.decimal.specs.Range.{above, at_most, size_of, is_end}

pub lower : (x y p q : ℕ) → x < 10 ^ 18 → 10 ^ 17 ≤ y → p < q → x * 10 ^ p < y * 10 ^ q
lower x y p q a b l =
    let o : 0 < 10 ^ p = one-le-pow p 10 (omega arith) in
    let c : 10 ^ suc p ≤ 10 ^ q = pow-le-pow_right (omega arith) l in
    let d = pow-suc 10 p in
    let e : x * 10 ^ p < 10 ^ 18 * 10 ^ p = mul-lt-mul_of_pos_right a o in
    let g : 10 ^ p * 10 ≤ 10 ^ q = omega arith in
    let f : 10 ^ 17 * (10 ^ p * 10) ≤ y * 10 ^ q = mul-le-mul b g in
    omega arith

pub level : (x y p : ℕ) → x ≤ y → x * 10 ^ p ≤ y * 10 ^ p
level x y p l = mul-le-mul_right (10 ^ p) l

pub beyond : (x y p : ℕ) → y < x → y * 10 ^ p < x * 10 ^ p
beyond x y p l = mul-lt-mul_of_pos_right l (one-le-pow p 10 (omega arith))

-- the number of 18 digits that a shorter one is the front of
pub digits_below : (k d : ℕ) → 10 ^ k ≤ d → d < 10 ^ 18 → k ≤ 17
digits_below k d a b =
    elim (cases_lt 17 k) [
      | inl l ↦ let q : 10 ^ 18 ≤ 10 ^ k = pow-le-pow_right (omega arith) l in absurd (omega arith)
      | inr l ↦ l
    ]

pub filled : (k d : ℕ) → 10 ^ k ≤ d → d < 10 * 10 ^ k → k ≤ 17 → (10 ^ 17 ≤ d * 10 ^ (17 - k)) × (d * 10 ^ (17 - k) < 10 ^ 18)
filled k d a b l =
    let e : 10 ^ 17 ≡ 10 ^ k * 10 ^ (17 - k) = ap (λ n. 10 ^ n) (let g : 17 ≡ k + (17 - k) = omega arith in g) ∙ pow-add 10 k (17 - k) in
    let o : 0 < 10 ^ (17 - k) = one-le-pow (17 - k) 10 (omega arith) in
    let f : 10 ^ k * 10 ^ (17 - k) ≤ d * 10 ^ (17 - k) = mul-le-mul_right (10 ^ (17 - k)) a in
    let h : d * 10 ^ (17 - k) < 10 * 10 ^ k * 10 ^ (17 - k) = mul-lt-mul_of_pos_right b o in
    let m = mul_assoc 10 (10 ^ k) (10 ^ (17 - k)) in
    (omega arith, omega arith)

scale : (m n c : ℕ) → 0 < c → leb (m * c) (n * c) ≡ leb m n
scale m n c o =
    elim (cases_lt n m) [
      | inl l ↦ let k : n * c < m * c = mul-lt-mul_of_pos_right l o in lt-leb (m * c) (n * c) k ∙ sym (lt-leb m n l)
      | inr l ↦ let k : m * c ≤ n * c = mul-le-mul_right c l in le-leb (m * c) (n * c) k ∙ sym (le-leb m n l)
    ]

above_difference : (k l : ℕ) → above (pos k -ℤ pos l) ≡ k - l
above_difference k l =
    elim (cases_lt k l) [
      | inl h ↦
          let e : pos k -ℤ pos l ≡ negsuc (l - k - 1) = omega (arith, ints) in
          let z : 0 ≡ k - l = omega arith in
          ap above e ∙ z
      | inr h ↦ let e : pos k -ℤ pos l ≡ pos (k - l) = omega (arith, ints) in ap above e
    ]

natural : (z : ℤ) → pos 0 ≤ℤ z → z ≡ pos (nat_abs z)
natural (pos n) h = refl
natural (negsuc n) h = absurd (omega (arith, ints))

raised : (a k j m : ℕ) → k ≡ j + m → a * 10 ^ k ≡ a * 10 ^ j * 10 ^ m
raised a k j m e = ap (λ x. a * 10 ^ x) e ∙ ap (λ x. a * x) (pow-add 10 j m) ∙ sym (mul_assoc a (10 ^ j) (10 ^ m))

-- the same size, m digits longer, and the power of ten lower by m
pub size_is : (d : Real) (m : ℕ) (p : ℤ) → negsuc 1099 ≤ℤ d.exponent → m ≤ 17 → p ≡ d.exponent -ℤ pos m → size_of d ≡ d.digits * 10 ^ m * 10 ^ nat_abs (p +ℤ pos 1200)
unfolding size_of
size_is d m p a l e =
    let u = natural (d.exponent +ℤ pos 1200) (omega (arith, ints)) in
    let v = natural (p +ℤ pos 1200) (omega (arith, ints, e)) in
    raised d.digits (nat_abs (d.exponent +ℤ pos 1200)) m (nat_abs (p +ℤ pos 1200)) (omega (arith, ints, u, v, e))

-- sizes compare as the reals do
pub sizes : (a b : Real) → negsuc 1099 ≤ℤ a.exponent → negsuc 1099 ≤ℤ b.exponent → leb (size_of a) (size_of b) ≡ at_most a b
unfolding size_of at_most
sizes a b p q =
    let k = nat_abs (a.exponent +ℤ pos 1200) in
    let l = nat_abs (b.exponent +ℤ pos 1200) in
    let u : a.exponent +ℤ pos 1200 ≡ pos (nat_abs (a.exponent +ℤ pos 1200)) = natural (a.exponent +ℤ pos 1200) (omega (arith, ints)) in
    let v : b.exponent +ℤ pos 1200 ≡ pos (nat_abs (b.exponent +ℤ pos 1200)) = natural (b.exponent +ℤ pos 1200) (omega (arith, ints)) in
    let e : a.exponent -ℤ b.exponent ≡ pos k -ℤ pos l = omega (arith, ints, u, v) in
    let f : b.exponent -ℤ a.exponent ≡ pos l -ℤ pos k = omega (arith, ints, u, v) in
    let m = k - (k - l) in
    let g : k ≡ k - l + (k - (k - l)) = omega arith in
    let h : l ≡ l - k + (k - (k - l)) = omega arith in
    ap (λ x. leb x (b.digits * 10 ^ l)) (raised a.digits k (k - l) m g)
    ∙ ap (leb (a.digits * 10 ^ (k - l) * 10 ^ m)) (raised b.digits l (l - k) m h)
    ∙ scale (a.digits * 10 ^ (k - l)) (b.digits * 10 ^ (l - k)) (10 ^ m) (one-le-pow m 10 (omega arith))
    ∙ sym (ap (λ x. leb (a.digits * 10 ^ x) (b.digits * 10 ^ above (b.exponent -ℤ a.exponent))) (ap above e ∙ above_difference k l)
    ∙ ap (λ x. leb (a.digits * 10 ^ (k - l)) (b.digits * 10 ^ x)) (ap above f ∙ above_difference l k))

-- of two reals whose sizes stand in this order, the first is not far above the second
pub near : (a b : Real) → 0 < a.digits → b.digits < 10 ^ 18 → at_most a b ≡ true → a.exponent ≤ℤ (b.exponent +ℤ pos 18)
unfolding at_most
near a b o s t =
    by_lt_z (b.exponent +ℤ pos 18) a.exponent
    (λ h.
    let w = a.exponent -ℤ b.exponent in
    let u : a.exponent -ℤ b.exponent ≡ pos (nat_abs (a.exponent -ℤ b.exponent)) = natural (a.exponent -ℤ b.exponent) (omega (arith, ints)) in
    let v : above (a.exponent -ℤ b.exponent) ≡ nat_abs w = ap above u in
    let x : 18 ≤ nat_abs (a.exponent -ℤ b.exponent) = omega (arith, ints, u) in
    let y : above (b.exponent -ℤ a.exponent) ≡ 0 = under (b.exponent -ℤ a.exponent) (omega (arith, ints)) in
    let l : a.digits * 10 ^ above (a.exponent -ℤ b.exponent) ≤ b.digits * 10 ^ above (b.exponent -ℤ a.exponent) = leb-true _ _ t in
    let c : 10 ^ 18 ≤ 10 ^ nat_abs (a.exponent -ℤ b.exponent) = pow-le-pow_right (omega arith) x in
    let d : 1 * 10 ^ 18 ≤ a.digits * 10 ^ nat_abs (a.exponent -ℤ b.exponent) = mul-le-mul o c in
    let r : b.digits * 10 ^ above (b.exponent -ℤ a.exponent) ≡ b.digits * 10 ^ 0 = ap (λ n. b.digits * 10 ^ n) y in
    let q : a.digits * 10 ^ above (a.exponent -ℤ b.exponent) ≡ a.digits * 10 ^ nat_abs (a.exponent -ℤ b.exponent) = ap (λ n. a.digits * 10 ^ n) v in
    absurd (omega arith))
    (λ h. h)
  where
    under : (z : ℤ) → z ≤ℤ pos 0 → above z ≡ 0
    under (pos n) h = omega (arith, ints)
    under (negsuc n) h = refl

pub both : (a b c d : Bool) → a ≡ c → b ≡ d → (a && b) ≡ (c && d)
both a b c d p q = ap (λ t. t && b) p ∙ ap (λ t. c && t) q

pub end_low : (e : Real) → is_end e ≡ true → negsuc 1099 ≤ℤ e.exponent
end_low e t = grind (arith, ints, nat_tests, t)

-- sizes that are aligned compare by their powers of ten first
module _ (m n x y : ℕ) (p q : ℤ) (e : m ≡ x * 10 ^ nat_abs (p +ℤ pos 1200)) (f : n ≡ y * 10 ^ nat_abs (q +ℤ pos 1200)) (l : negsuc 1199 ≤ℤ p) (h : negsuc 1199 ≤ℤ q) (a : (10 ^ 17 ≤ x) × (x < 10 ^ 18)) (b : (10 ^ 17 ≤ y) × (y < 10 ^ 18)) where
  pub in_order : is_some_and is_le (partial_ordering_then (Some (int_cmp p q)) (Some (nat_cmp x y))) ≡ leb m n
  in_order =
      let j = nat_abs (p +ℤ pos 1200) in
      let k = nat_abs (q +ℤ pos 1200) in
      let u = natural (p +ℤ pos 1200) (omega (arith, ints)) in
      let v = natural (q +ℤ pos 1200) (omega (arith, ints)) in
      elim (cases_lt j k) [
        | inl c ↦
            let w : p <ℤ q = omega (arith, ints, u, v) in
            let z = lower x y j k a.1 b.0 c in
            by_first Less (int_cmp_is p q Less w) ∙ sym (le-leb m n (omega arith))
        | inr c ↦
            elim (cases_eq j k) [
              | inl g ↦
                  let w : p ≡ q = omega (arith, ints, u, v) in
                  by_first Equal (int_cmp_is p q Equal w) ∙ level_order (f ∙ ap (λ z. y * 10 ^ z) (sym g))
              | inr g ↦
                  let c : k < j = omega arith in
                  let w : q <ℤ p = omega (arith, ints, u, v) in
                  let z = lower y x k j b.1 a.0 c in
                  by_first Greater (int_cmp_is p q Greater w) ∙ sym (lt-leb m n (omega arith))
            ]
      ]
    where
      by_first : (o : Ordering) → o ≡ int_cmp p q → is_some_and is_le (partial_ordering_then (Some (int_cmp p q)) (Some (nat_cmp x y))) ≡ is_some_and is_le (partial_ordering_then (Some o) (Some (nat_cmp x y)))
      by_first o w = ap (λ o. is_some_and is_le (partial_ordering_then (Some o) (Some (nat_cmp x y)))) (sym w)

      level_order : n ≡ y * 10 ^ nat_abs (p +ℤ pos 1200) → is_le (nat_cmp x y) ≡ leb m n
      level_order h =
          elim (cases_lt y x) [
            | inl c ↦ let k = beyond x y (nat_abs (p +ℤ pos 1200)) c in ap is_le (sym (nat_cmp_is x y Greater c)) ∙ sym (lt-leb m n (omega arith))
            | inr c ↦
                let k = level x y (nat_abs (p +ℤ pos 1200)) c in
                elim (cases_eq x y) [
                  | inl g ↦ ap is_le (sym (nat_cmp_is x y Equal g)) ∙ sym (le-leb m n (omega arith))
                  | inr g ↦ let t : x < y = omega arith in ap is_le (sym (nat_cmp_is x y Less t)) ∙ sym (le-leb m n (omega arith))
                ]
          ]
