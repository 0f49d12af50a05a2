-- The one spelling of an exact decimal.
--     spelling d   the sign, and the digits as the power of ten of the first one asks
--     placed p ds  without E where p is from -4 to 9, and else with E
-- The bytes 43, 45, 46, 48 and 69 are + - . 0 and E; `negsuc n` is -(n + 1).
use Rattle.std.specs.Prelude.{ℕ, suc, ◌-◌, Bool, cond, ◌&&◌, List, ◌∷◌, ◌++◌, length, take, drop, replicate, ℤ, pos, negsuc, ◌+ℤ◌, decimal, int_le, nat_lt}
use Rattle.std.specs.Fmt.{sign_text}
use Rattle.decimal.specs.declared.real.Real.{Real}

-- the point after the first k digits, and none where no digit follows
abbrev pub pointed : ℕ → List ℕ → List ℕ
pointed k ds = cond (nat_lt k (length ds)) (take k ds ++ (46 ∷ drop k ds)) ds

-- digits ds, the first of them at the power p of ten, without an E
abbrev pub fixed : ℤ → List ℕ → List ℕ
fixed (pos p) ds = pointed (suc p) (ds ++ replicate (suc p - length ds) 48)
fixed (negsuc q) ds = 48 ∷ 46 ∷ (replicate q 48 ++ ds)

-- at least two digits
abbrev pub two_digits : ℕ → List ℕ
two_digits n = cond (nat_lt n 10) (48 ∷ decimal n) (decimal n)

-- a sign, and the size of the power
abbrev pub power_text : ℤ → List ℕ
power_text (pos p) = 43 ∷ two_digits p
power_text (negsuc q) = 45 ∷ two_digits (suc q)

-- the first digit, a point and the others if there are any, E and the power
abbrev pub scientific : ℤ → List ℕ → List ℕ
scientific p ds = pointed 1 ds ++ (69 ∷ power_text p)

-- p is from -4 to 9
abbrev pub in_fixed : ℤ → Bool
in_fixed p = int_le (negsuc 3) p && int_le p (pos 9)

-- digits whose first stands at the power p of ten
abbrev pub placed : ℤ → List ℕ → List ℕ
placed p ds = cond (in_fixed p) (fixed p ds) (scientific p ds)

-- the power of ten of the first digit
abbrev pub power_of : Real → ℤ
power_of d = d.exponent +ℤ pos (length (decimal d.digits) - 1)

-- zero, which has the digit 0 and p = 0, comes out as 0
abbrev pub spelling : Real → List ℕ
spelling d = sign_text d.negative ++ placed (power_of d) (decimal d.digits)
