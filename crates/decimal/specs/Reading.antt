-- What a text of a real reads as: an optional minus, digits, optionally a point and digits, optionally E with a power of ten.
--     decimal_of bs        the real that the text writes, in its normal form, if it writes one
--     normal negative m x  m × 10^x in the normal form, if that has at most 18 digits
-- The bytes 43, 45, 46 and 69 are + - . and E.
use Rattle.std.specs.Prelude.{ℕ, zero, suc, ◌/◌, ◌%◌, ◌^◌, Bool, true, false, cond, ◌&&◌, List, [], ◌∷◌, ◌++◌, length, take, drop, ℤ, pos, ◌+ℤ◌, ◌-ℤ◌, neg_ℤ, Some, None, Option, ◌==◌, nat_lt, slice_index}
use Rattle.std.specs.Option.{option_map}
use Rattle.std.specs.Str.Parse.{digits_value}
use Rattle.std.specs.Char.{is_ascii_digit}
use Rattle.std.specs.Str.{all_ascii_digits}
use Rattle.decimal.specs.declared.real.Real.{Real}
use Rattle.decimal.specs.Normal.{nought}

-- how many digits the text begins with
abbrev pub run_of : List ℕ → ℕ
run_of [] = 0
run_of (c ∷ cs) = cond (is_ascii_digit c) (suc (run_of cs)) 0

-- how many zeros m ends in, if they are at most k
abbrev pub tens_of : ℕ → ℕ → ℕ
tens_of zero m = 0
tens_of (suc k) m = cond (m % 10 == 0) (suc (tens_of k (m / 10))) 0

-- how many zeros a number of at most 40 digits ends in, as every text has at most 40
unfoldable pub tens : ℕ → ℕ
tens m = tens_of 40 m

-- m × 10^x in the normal form: no digit 0 at the end, and no sign at zero; at most 18 digits
abbrev pub normal : Bool → ℕ → ℤ → Option Real
normal negative m x =
    cond (m == 0) (Some nought)
    (cond (nat_lt (m / 10 ^ tens m) (10 ^ 18)) (Some (record { negative = negative; digits = m / 10 ^ tens m; exponent = x +ℤ pos (tens m) })) None)

-- one to three digits
abbrev pub power_digits : List ℕ → Option ℕ
power_digits ds = cond (all_ascii_digits ds && (nat_lt 0 (length ds) && nat_lt (length ds) 4)) (Some (digits_value 10 ds)) None

-- what stands behind the digits: nothing, or E and a power of ten
abbrev pub power_read : List ℕ → Option ℤ
power_read rest =
    cond (length rest == 0) (Some (pos 0))
    (cond (slice_index rest 0 == 69)
    (cond (slice_index rest 1 == 45) (option_map (λ n. neg_ℤ (pos n)) (power_digits (drop 2 rest)))
    (option_map (λ n. pos n) (power_digits (cond (slice_index rest 1 == 43) (drop 2 rest) (drop 1 rest)))))
    None)

-- the digits before and behind the point are one number, to which the power belongs
abbrev pub at_power : Bool → List ℕ → List ℕ → Option ℤ → Option Real
at_power negative whole fraction None = None
at_power negative whole fraction (Some x) = normal negative (digits_value 10 (whole ++ fraction)) (x -ℤ pos (length fraction))

-- rest is the text behind the point: at least one digit, and then a power
abbrev pub at_point : Bool → List ℕ → List ℕ → Option Real
at_point negative whole rest = cond (run_of rest == 0) None (at_power negative whole (take (run_of rest) rest) (power_read (drop (run_of rest) rest)))

-- rest is the text behind the first digits
abbrev pub at_whole : Bool → List ℕ → List ℕ → Option Real
at_whole negative whole rest = cond (slice_index rest 0 == 46) (at_point negative whole (drop 1 rest)) (at_power negative whole [] (power_read rest))

-- the text behind the sign
abbrev pub unsigned_of : Bool → List ℕ → Option Real
unsigned_of negative bs = cond (run_of bs == 0) None (at_whole negative (take (run_of bs) bs) (drop (run_of bs) bs))

abbrev pub decimal_of : List ℕ → Option Real
decimal_of bs = cond (slice_index bs 0 == 45) (unsigned_of true (drop 1 bs)) (unsigned_of false bs)
