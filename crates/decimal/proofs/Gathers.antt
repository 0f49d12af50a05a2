-- Digits that are gathered from the left.
use Rattle.std.proofs.Common.{◌≡◌, ℕ, zero, suc, ◌+◌, ◌-◌, ◌*◌, ◌^◌, ◌<◌, ◌≤◌, true, List, [], ◌∷◌, length, get_or, drop, sym, refl, ap, ◌∙◌, mul_assoc, suc-mul, pow-suc, add-one, arith}
use native.Mathlib.Nat.{pow-le-pow_right}
use Rattle.std.specs.Str.Parse.{digits_value_after}
use Rattle.std.specs.Char.{digit_value}
use Rattle.std.specs.Int.{IsInRange}
use Rattle.std.specs.Str.{all_ascii_digits}
use Rattle.std.proofs.lemmas.List.{at_drop_more}
use Rattle.std.proofs.lemmas.Str.Parse.{digit_at}
use Rattle.std.proofs.lemmas.Bool.Decides.{nat_tests}
use Rattle.decimal.specs.Gather.{TooLong}
use Rattle.protocol.proofs.Digits.{own}

pub shift : (c t : ℕ) → c * 10 ^ suc t ≡ c * 10 ^ t * 10
shift c t = ap (λ x. c * x) (pow-suc 10 t) ∙ sym (mul_assoc c (10 ^ t) 10)

pub zero_more : (d z : ℕ) → d * 10 ^ (z + 1) ≡ d * 10 ^ z * 10
zero_more d z = ap (λ x. d * 10 ^ x) (add-one z) ∙ shift d z

pub long_here : (m d : ℕ) → 0 < d → d < 10 → 10 ^ 18 ≤ m * 10 + d → TooLong (m * 10 + d)
long_here m d p q l c zero e = omega arith
long_here m d p q l c (suc t) e = absurd (omega (arith, shift c t))

pub long_more : (m d : ℕ) → d < 10 → TooLong m → TooLong (m * 10 + d)
long_more m d q l c zero e = omega (arith, l m 0 (omega arith))
long_more m d q l c (suc t) e = l c t (omega (arith, shift c t))

pub digit_is : (c : ℕ) → IsInRange 48 57 c → digit_value c ≡ c - 48
digit_is c i = grind (arith, nat_tests)

pub long_all : (ds : List ℕ) (m : ℕ) → all_ascii_digits ds ≡ true → TooLong m → TooLong (digits_value_after 10 m ds)
long_all [] m a l = l
long_all (c ∷ cs) m a l =
    let i : IsInRange 48 57 c = grind (arith, nat_tests) in
    let b : all_ascii_digits cs ≡ true = grind (arith, nat_tests) in
    let d = digit_is c i in
    long_all cs (m * 10 + digit_value c) b (long_more m (digit_value c) (omega arith) l)

pub digit_in : (ds : List ℕ) (i : ℕ) → all_ascii_digits ds ≡ true → i < length ds → IsInRange 48 57 (get_or ds i 0)
digit_in ds i a l = digit_at ds i (own.to ds a) l

pub all_drop : (ds : List ℕ) (n : ℕ) → all_ascii_digits ds ≡ true → all_ascii_digits (drop n ds) ≡ true
all_drop ds zero a = a
all_drop [] (suc n) a = refl
all_drop (c ∷ cs) (suc n) a = all_drop cs n (grind (arith, nat_tests))

pub big : (d z : ℕ) → 0 < d → 18 < z + 1 → 10 ^ 18 ≤ d * 10 ^ z * 10
big zero z p l = elim p [ ]
big (suc d) z p l =
    let h : 18 ≤ z = omega arith in
    let a : 10 ^ 18 ≤ 10 ^ z = pow-le-pow_right (omega arith) h in
    omega (arith, suc-mul d (10 ^ z))

pub stepped : (m : ℕ) (ds : List ℕ) (i : ℕ) → all_ascii_digits ds ≡ true → i < length ds → digits_value_after 10 m (drop i ds) ≡ digits_value_after 10 (m * 10 + (get_or ds i 0 - 48)) (drop (i + 1) ds)
stepped m ds i a l =
    at_drop_more (digits_value_after 10 m) ds i 0 l ∙ ap (λ x. digits_value_after 10 (m * 10 + x) (drop (i + 1) ds)) (digit_is (get_or ds i 0) (digit_in ds i a l))
