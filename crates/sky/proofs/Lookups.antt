-- Looking through stars for a name.
use Rattle.std.proofs.Common.{◌≡◌, ℕ, ◌+◌, cond, List, [], ◌∷◌, Some, ◌∙◌, refl, ap}
use Rattle.std.specs.List.{position, position_from}
use Rattle.std.specs.Str.{bytes_eq}
use Rattle.std.proofs.lemmas.Iterator.Adapters.{position_from-zero}
use Rattle.sky.specs.Stars.{star_name}
use Rattle.sky.specs.Names.{place_from, place_of}
use Rattle.sky.specs.declared.star.Star.{Star}

from_place : (name : List ℕ) (ss : List Star) (at : ℕ) → position_from (λ (s : Star). bytes_eq (star_name s) name) at ss ≡ place_from at name ss
from_place name [] at = refl
from_place name (s ∷ ss) at = ap (λ o. cond (bytes_eq (star_name s) name) (Some at) o) (from_place name ss (at + 1))

pub place_position : (name : List ℕ) (ss : List Star) → position (λ (s : Star). bytes_eq (star_name s) name) ss ≡ place_of name ss
place_position name ss = position_from-zero (λ (s : Star). bytes_eq (star_name s) name) ss ∙ from_place name ss 0
