-- The ranges of the two types of reals.
use Rattle.std.specs.Prelude.{ℕ, ◌*◌, ◌^◌, Bool, false, cond, ◌&&◌, ◌||◌, List, ℤ, pos, negsuc, ◌+ℤ◌, ◌-ℤ◌, Some, None, Option, unsigned_abs, ◌==◌, nat_le, nat_lt, int_le}
use Rattle.decimal.specs.declared.real.Real.{Real}
use Rattle.decimal.specs.Reading.{decimal_of}

-- z, or 0 where z is below it
abbrev pub above : ℤ → ℕ
above (pos n) = n
above (negsuc n) = 0

-- the size of a is at most that of b, both at the lower of their powers of ten
unfoldable pub at_most : Real → Real → Bool
at_most a b = nat_le (a.digits * 10 ^ above (a.exponent -ℤ b.exponent)) (b.digits * 10 ^ above (b.exponent -ℤ a.exponent))

-- zero, or of a size from that of the least to that of the most
abbrev pub inside : Real → Real → Real → Bool
inside least most d = d.digits == 0 || (at_most least d && at_most d most)

-- the size of a real whose power of ten is above -1200, times 10 to the power 1200
unfoldable pub size_of : Real → ℕ
size_of d = d.digits * 10 ^ unsigned_abs (d.exponent +ℤ pos 1200)

-- a size that a reach may begin or end with: not zero, at most 18 digits, and a power of ten that is not far from 0
abbrev pub is_end : Real → Bool
is_end d = (nat_lt 0 d.digits && nat_lt d.digits (10 ^ 18)) && (int_le (negsuc 381) d.exponent && int_le d.exponent (pos 382))

-- 1.401298E-45 and 3.4028235E+38
abbrev pub si_least : Real
si_least = record { negative = false; digits = 1401298; exponent = negsuc 50 }

abbrev pub si_most : Real
si_most = record { negative = false; digits = 34028235; exponent = pos 31 }

-- 4.94065645841246544E-324 and 1.79769313486231570E+308
abbrev pub do_least : Real
do_least = record { negative = false; digits = 494065645841246544; exponent = negsuc 340 }

abbrev pub do_most : Real
do_most = record { negative = false; digits = 17976931348623157; exponent = pos 292 }

abbrev pub is_single : Real → Bool
is_single d = inside si_least si_most d

abbrev pub is_double : Real → Bool
is_double d = inside do_least do_most d

-- the real, if it passes a test
abbrev pub passing : (Real → Bool) → Option Real → Option Real
passing test None = None
passing test (Some d) = cond (test d) (Some d) None

-- what a text reads as: in a reach, as Si, and as Do
abbrev pub within_of : Real → Real → List ℕ → Option Real
within_of least most bs = passing (inside least most) (decimal_of bs)

abbrev pub single_of : List ℕ → Option Real
single_of bs = within_of si_least si_most bs

abbrev pub double_of : List ℕ → Option Real
double_of bs = within_of do_least do_most bs
