-- The forms of a spelling, each where its arm is taken.
use Rattle.std.proofs.Common.{◌≡◌, ℕ, suc, ◌+◌, ◌-◌, ◌<◌, ◌≤◌, true, false, List, ◌∷◌, ◌++◌, length, take, drop, replicate, ℤ, pos, negsuc, ◌+ℤ◌, ◌-ℤ◌, nat_abs, ◌≤ℤ◌, sym, refl, ap, ◌∙◌, append_assoc, arith, w16, w64, SFits, to_z, of_z}
use Rattle.std.proofs.lemmas.List.{length-append, length-replicate, append-nil}
use Rattle.std.proofs.lemmas.Bool.{cond-true, cond-false, lt-ltb, le-ltb}
use Rattle.std.proofs.lemmas.Int.{ints, to_z-of_z}
use Rattle.decimal.specs.Spelling.{pointed, in_fixed, placed, power_text}

pub place_below : (p : ℤ) (ds : List ℕ) → negsuc 3 ≤ℤ p → p ≤ℤ negsuc 0 → placed p ds ≡ 48 ∷ 46 ∷ (replicate (nat_abs p - 1) 48 ++ ds)
place_below (pos n) ds a b = absurd (omega (arith, ints))
place_below (negsuc n) ds a b =
    let t : in_fixed (negsuc n) ≡ true = grind (arith, ints) in
    let e : n ≡ suc n - 1 = omega arith in
    cond-true _ _ _ t ∙ ap (λ k. 48 ∷ 46 ∷ (replicate k 48 ++ ds)) e

pub place_padded : (p : ℤ) (ds : List ℕ) → pos 0 ≤ℤ p → p ≤ℤ pos 9 → length ds ≤ nat_abs p + 1 → placed p ds ≡ ds ++ replicate (nat_abs p + 1 - length ds) 48
place_padded (negsuc n) ds a b l = absurd (omega (arith, ints))
place_padded (pos n) ds a b l =
    let t : in_fixed (pos n) ≡ true = grind (arith, ints) in
    let e : suc n ≡ n + 1 = omega arith in
    let f : length (ds ++ replicate (suc n - length ds) 48) ≤ suc n = simp (length-append, length-replicate) (omega arith) in
    cond-true _ _ _ t ∙ cond-false _ _ _ (le-ltb _ _ f) ∙ ap (λ k. ds ++ replicate (k - length ds) 48) e

pub place_pointed : (p : ℤ) (ds : List ℕ) → pos 0 ≤ℤ p → p ≤ℤ pos 9 → nat_abs p + 1 < length ds → placed p ds ≡ take (nat_abs p + 1) ds ++ (46 ∷ drop (nat_abs p + 1) ds)
place_pointed (negsuc n) ds a b l = absurd (omega (arith, ints))
place_pointed (pos n) ds a b l =
    let t : in_fixed (pos n) ≡ true = grind (arith, ints) in
    let e : suc n ≡ n + 1 = omega arith in
    let z : suc n - length ds ≡ 0 = omega arith in
    let k : suc n < length ds = omega arith in
    cond-true _ _ _ t
    ∙ ap (λ m. pointed (suc n) (ds ++ replicate m 48)) z
    ∙ ap (pointed (suc n)) (append-nil ds)
    ∙ cond-true _ _ _ (lt-ltb _ _ k)
    ∙ ap (λ m. take m ds ++ (46 ∷ drop m ds)) e

pub place_one : (p : ℤ) (ds : List ℕ) → in_fixed p ≡ false → length ds ≡ 1 → placed p ds ≡ ds ++ (69 ∷ power_text p)
place_one p ds f l = cond-false _ _ _ f ∙ ap (λ x. x ++ (69 ∷ power_text p)) (cond-false _ _ _ (le-ltb 1 (length ds) (omega arith)))

pub place_more : (p : ℤ) (ds : List ℕ) → in_fixed p ≡ false → 1 < length ds → placed p ds ≡ take 1 ds ++ (46 ∷ (drop 1 ds ++ (69 ∷ power_text p)))
place_more p ds f l =
    cond-false _ _ _ f
    ∙ ap (λ x. x ++ (69 ∷ power_text p)) (cond-true _ _ _ (lt-ltb 1 (length ds) l))
    ∙ append_assoc (take 1 ds) (46 ∷ drop 1 ds) (69 ∷ power_text p)

pub fits16 : (z : ℤ) → negsuc 9999 ≤ℤ z → z ≤ℤ pos 9999 → SFits w16 z
fits16 (pos n) a b = record { sfits = omega (arith, ints) }
fits16 (negsuc n) a b = record { sfits = omega (arith, ints) }

fits64 : (z : ℤ) → negsuc 99999 ≤ℤ z → z ≤ℤ pos 99999 → SFits w64 z
fits64 (pos n) a b = record { sfits = omega (arith, ints) }
fits64 (negsuc n) a b = record { sfits = omega (arith, ints) }

-- a sum of small numbers, as the code computes it
pub sum_in : (z y : ℤ) → negsuc 1998 ≤ℤ z → z ≤ℤ pos 1999 → negsuc 99 ≤ℤ y → y ≤ℤ pos 99 → to_z w16 (of_z w16 (to_z w16 (of_z w16 z) +ℤ to_z w16 (of_z w16 y))) ≡ z +ℤ y
sum_in z y a b d e =
    let f : SFits w16 z = fits16 z (omega (arith, ints)) (omega (arith, ints)) in
    let g : SFits w16 y = fits16 y (omega (arith, ints)) (omega (arith, ints)) in
    let h : SFits w16 (z +ℤ y) = fits16 (z +ℤ y) (omega (arith, ints)) (omega (arith, ints)) in
    simp to_z-of_z refl

-- and a difference, with 64 bits
pub difference64 : (z : ℤ) (m : ℕ) → negsuc 9999 ≤ℤ z → z ≤ℤ pos 9999 → m ≤ 17 → to_z w64 (of_z w64 (to_z w64 (of_z w64 z) -ℤ to_z w64 (of_z w64 (pos m)))) ≡ z -ℤ pos m
difference64 z m a b l =
    let f : SFits w64 z = fits64 z (omega (arith, ints)) (omega (arith, ints)) in
    let g : SFits w64 (pos m) = fits64 (pos m) (omega (arith, ints)) (omega (arith, ints)) in
    let h : SFits w64 (z -ℤ pos m) = fits64 (z -ℤ pos m) (omega (arith, ints)) (omega (arith, ints)) in
    simp to_z-of_z refl

-- digits, and behind them the zeros up to the point
pub padded : (p : ℤ) (text ds zs t u : List ℕ) (size : ℕ) → pos 0 ≤ℤ p → p ≤ℤ pos 9 → size ≡ nat_abs p → length ds ≤ size → zs ≡ replicate (size + 1 - length ds) 48 → t ≡ text ++ ds → u ≡ t ++ zs → u ≡ text ++ placed p ds
padded p text ds zs t u size a b e l z s r =
    r
    ∙ ap (λ x. x ++ zs) s
    ∙ append_assoc text ds zs
    ∙ ap (λ x. text ++ (ds ++ x)) (z ∙ ap (λ n. replicate (n + 1 - length ds) 48) e)
    ∙ ap (λ x. text ++ x) (sym (place_padded p ds a b (omega arith)))
