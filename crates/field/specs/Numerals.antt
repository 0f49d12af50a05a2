-- A whole number without a sign: digits with no leading zero.
use Rattle.std.specs.Prelude.{ℕ, Bool, true, false, cond, ◌&&◌, List, [], ◌∷◌, Some, None, Option, ◌==◌, nat_le}
use Rattle.std.specs.Str.Parse.{digits_value}
use Rattle.std.specs.Str.{all_ascii_digits}

abbrev pub none : List ℕ → Bool
none [] = true
none (d ∷ ds) = false

-- one digit or more, with a zero in front only where it stands alone
abbrev pub whole : List ℕ → Bool
whole [] = false
whole (d ∷ ds) = all_ascii_digits (d ∷ ds) && cond (d == 48) (none ds) true

-- the number that the digits spell, if it is at most `top`
abbrev pub numeral : ℕ → List ℕ → Option ℕ
numeral top ds = cond (whole ds && nat_le (digits_value 10 ds) top) (Some (digits_value 10 ds)) None
