-- The first of a list that passes a test.
use Rattle.std.specs.Prelude.{ℕ, suc, Bool, cond, List, [], ◌∷◌}

-- how many stand before the first that passes: all of them where none does
abbrev pub first_by : {X : Type 0} → (X → Bool) → List X → ℕ
first_by passes [] = 0
first_by passes (x ∷ xs) = cond (passes x) 0 (suc (first_by passes xs))
