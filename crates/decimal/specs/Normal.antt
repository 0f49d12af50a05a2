-- Reals in their normal form: each number has one.
use Rattle.std.specs.Prelude.{◌≡◌, ◌%◌, ◌^◌, ◌<◌, Bool, true, false, cond, not, ◌&&◌, pos, negsuc, ◌≤ℤ◌, ◌==◌, int_le, nat_lt}
use Rattle.decimal.specs.declared.real.Real.{Real}

-- zero has no sign
abbrev pub nought : Real
nought = record { negative = false; digits = 0; exponent = pos 0 }

abbrev pub is_zero : Real → Bool
is_zero d = d.digits == 0 && (not d.negative && (int_le (pos 0) d.exponent && int_le d.exponent (pos 0)))

-- at most 18 digits, the last of them not 0, unless all is zero
abbrev pub in_form : Real → Bool
in_form d = nat_lt d.digits (10 ^ 18) && cond (d.digits % 10 == 0) (is_zero d) true

-- the same, with bounds on the power of ten that every text of 40 bytes keeps
pub record Normal (d : Real) : Type 0 where
  pub short : d.digits < 10 ^ 18
  pub last : d.digits % 10 ≡ 0 → d ≡ nought
  pub low : negsuc 1099 ≤ℤ d.exponent
  pub high : d.exponent ≤ℤ pos 1100
