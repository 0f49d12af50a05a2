-- Writing into a row of bytes.
use Rattle.std.specs.Prelude.{ℕ, ◌+◌, Bool, List, ◌++◌, length, take, drop, nat_le}

-- the row with ys written over it from a place on
abbrev pub put_at : List ℕ → ℕ → List ℕ → List ℕ
put_at row at ys = take at row ++ (ys ++ drop (at + length ys) row)

-- ys has room in the row from a place on
abbrev pub fits : List ℕ → ℕ → List ℕ → Bool
fits row at ys = nat_le (at + length ys) (length row)
