-- Numbers with leading zeros: what `{:02}` and `{:03}` write.
use Rattle.std.proofs.Common.{◌≡◌, ℕ, suc, ◌+◌, ◌-◌, ◌/◌, ◌%◌, ◌^◌, ◌<◌, ◌≤◌, false, List, [], ◌∷◌, ◌++◌, length, replicate, sym, ap, ◌∙◌, ⊎_elim, append_assoc, length-append, append-nil, arith}
use Rattle.std.specs.Fmt.{format_spec, padded_integral, char_count, styled_decimal, decimal}
use Rattle.std.proofs.lemmas.Bool.{cases_lt}
use Rattle.std.proofs.lemmas.Fmt.{decimal_digit, decimal_step, decimal_nonempty, length-decimal-le}
use Rattle.sky.specs.Coordinates.{two, three}

-- zeros up to the width, and then the digits
zeros : (width : ℕ) (ds : List ℕ) → padded_integral (format_spec 32 0 4 width (2 ^ 64 - 1)) false [] ds ≡ replicate (width - length ds) 48 ++ ds
unfolding padded_integral char_count
zeros width ds =
    let e : width - length ds - 0 - 0 ≡ width - length ds = omega arith in
    rw e (ap (λ xs. replicate (width - length ds) 48 ++ xs) (append-nil ds))

-- the last digit
unit : (n : ℕ) → decimal (n % 10) ≡ (48 + n % 10) ∷ []
unit n = let h : n % 10 < 10 = omega arith in decimal_digit (n % 10) h

two_long : (n : ℕ) → 10 ≤ n → n < 2 ^ 64 → decimal n ≡ two n
two_long n l h = decimal_step n l h ∙ ap (λ ds. decimal (n / 10) ++ ds) (sym (unit n))

three_long : (n : ℕ) → 100 ≤ n → n < 2 ^ 64 → decimal n ≡ three n
three_long n l h =
    let tens : n / 10 / 10 ≡ n / 100 = omega arith in
    let ten : n / 10 % 10 ≡ n % 100 / 10 = omega arith in
    let one : n % 10 ≡ n % 100 % 10 = omega arith in
    two_long n (omega arith) h
    ∙ ap (λ ds. ds ++ decimal (n % 10)) (two_long (n / 10) (omega arith) (omega arith))
    ∙ append_assoc (decimal (n / 10 / 10)) (decimal (n / 10 % 10)) (decimal (n % 10))
    ∙ rw (tens, ten, one)

length_step : (n : ℕ) → 10 ≤ n → n < 2 ^ 64 → length (decimal n) ≡ length (decimal (n / 10)) + 1
length_step n l h = ap length (decimal_step n l h) ∙ length-append (decimal (n / 10)) ((48 + n % 10) ∷ [])

two_short : (n : ℕ) → n < 10 → 48 ∷ decimal n ≡ two n
two_short n h =
    let high : n / 10 ≡ 0 = omega arith in
    let low : n % 10 ≡ n = omega arith in
    let nought : 0 < 10 = omega arith in
    rw (high, low) (ap (λ ds. ds ++ decimal n) (sym (decimal_digit 0 nought)))

two_zeros : (n : ℕ) → n < 2 ^ 64 → replicate (2 - length (decimal n)) 48 ++ decimal n ≡ two n
two_zeros n h = ⊎_elim
    (λ small.
    let one : 2 - length (decimal n) ≡ 1 = ap (λ ds. 2 - length ds) (decimal_digit n small) in
    rw one (two_short n small))
    (λ large.
    let none : 2 - length (decimal n) ≡ 0 = omega (arith, length_step n large h, decimal_nonempty (n / 10) (omega arith)) in
    rw none (two_long n large h))
    (cases_lt n 10)

pub two_padded : (n : ℕ) → n < 2 ^ 64 → styled_decimal (format_spec 32 0 4 2 (2 ^ 64 - 1)) n ≡ two n
two_padded n h = zeros 2 (decimal n) ∙ two_zeros n h

-- one zero more in front of fewer than three digits
one_more : (k : ℕ) (ds : List ℕ) → k < 3 → replicate (3 - k) 48 ++ ds ≡ 48 ∷ (replicate (2 - k) 48 ++ ds)
one_more k ds h = let e : 3 - k ≡ suc (2 - k) = omega arith in rw e

three_short : (n : ℕ) → n < 100 → 48 ∷ two n ≡ three n
three_short n h =
    let high : n / 100 ≡ 0 = omega arith in
    let low : n % 100 ≡ n = omega arith in
    let nought : 0 < 10 = omega arith in
    rw (high, low) (ap (λ ds. ds ++ two n) (sym (decimal_digit 0 nought)))

pub three_padded : (n : ℕ) → n < 2 ^ 64 → styled_decimal (format_spec 32 0 4 3 (2 ^ 64 - 1)) n ≡ three n
three_padded n h = zeros 3 (decimal n) ∙ ⊎_elim
    (λ small. one_more (length (decimal n)) (decimal n) (omega (arith, length-decimal-le 2 n (omega arith) small h)) ∙ ap (λ ds. 48 ∷ ds) (two_zeros n h) ∙ three_short n small)
    (λ large.
    let none : 3 - length (decimal n) ≡ 0 = omega (arith, length_step n (omega arith) h, length_step (n / 10) (omega arith) (omega arith), decimal_nonempty (n / 10 / 10) (omega arith)) in
    rw none (three_long n large h))
    (cases_lt n 100)
