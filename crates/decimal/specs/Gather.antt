-- A number as digits that do not end in 0, and zeros behind them.
use Rattle.std.specs.Prelude.{◌≡◌, ℕ, ◌*◌, ◌^◌, ◌≤◌, MatchOption, Option}
use Rattle.decimal.specs.declared.coefficient.Coefficient.{Coefficient}

-- the number that a coefficient stands for
abbrev pub amount : Coefficient → ℕ
amount c = c.digits * 10 ^ c.zeros

-- however many zeros are taken off its end, more than 18 digits are left
abbrev pub TooLong : ℕ → Type 0
TooLong m = (c t : ℕ) → m ≡ c * 10 ^ t → 10 ^ 18 ≤ c

-- m as a coefficient with at most so many zeros, or nothing where m has more than 18 digits in front of its zeros
abbrev pub Gathered : ℕ → ℕ → Option Coefficient → Type 0
Gathered m most o = MatchOption o (TooLong m) (λ c. (amount c ≡ m) × (c.zeros ≤ most))
