-- Stars by name.
use Rattle.std.specs.Prelude.{ℕ, ◌+◌, cond, List, [], ◌∷◌, Some, None, Option}
use Rattle.std.specs.Str.{bytes_eq}
use Rattle.sky.specs.Stars.{star_name}
use Rattle.sky.specs.declared.star.Star.{Star}

-- the place of the first star with the name, where the first of all stands at a place
abbrev pub place_from : ℕ → List ℕ → List Star → Option ℕ
place_from at name [] = None
place_from at name (s ∷ ss) = cond (bytes_eq (star_name s) name) (Some at) (place_from (at + 1) name ss)

-- the place of the first star with the name, counted from 0
abbrev pub place_of : List ℕ → List Star → Option ℕ
place_of name ss = place_from 0 name ss
