-- A star's place among stars, and its row among their rows.
use Rattle.std.proofs.Common.{◌≡◌, ℕ, suc, ◌+◌, ◌-◌, ◌≤◌, Bool, true, false, cond, List, [], ◌∷◌, map, get_or, is_some, Some, None, Option, refl, ap, ◌∙◌, arith}
use Rattle.std.specs.Str.{bytes_eq}
use Rattle.sky.specs.Stars.{Row, row, star_name}
use Rattle.sky.specs.Names.{place_from, place_of}
use Rattle.sky.specs.declared.star.Star.{Star}
use Rattle.chart.specs.Rows.{named}

-- a name stands among the rows of stars if it stands among the stars
pub named_if_placed : (at : ℕ) (name : List ℕ) (ss : List Star) → is_some (named name (map row ss)) ≡ is_some (place_from at name ss)
named_if_placed at name [] = refl
named_if_placed at name (s ∷ ss) = by (bytes_eq (star_name s) name) (named_if_placed (at + 1) name ss)
  where
    by : (b : Bool) → is_some (named name (map row ss)) ≡ is_some (place_from (at + 1) name ss) → is_some (cond b (Some (row s)) (named name (map row ss))) ≡ is_some (cond b (Some at) (place_from (at + 1) name ss))
    by true e = refl
    by false e = e

pub none_named : (name : List ℕ) (ss : List Star) → place_of name ss ≡ None → named name (map row ss) ≡ None
none_named name ss e = by (named name (map row ss)) (named_if_placed 0 name ss ∙ ap is_some e)
  where
    by : (o : Option Row) → is_some o ≡ false → o ≡ None
    by None f = refl
    by (Some r) f = cc

-- the star at k, where the first stands at a place
record At (at k : ℕ) (found : Option Row) (ss : List Star) (d : Star) : Type 0 where
  behind : at ≤ k
  held : found ≡ Some (row (get_or ss (k - at) d))

place_some : (at k : ℕ) (name : List ℕ) (ss : List Star) (d : Star) → place_from at name ss ≡ Some k → At at k (named name (map row ss)) ss d
place_some at k name [] d e = cc
place_some at k name (s ∷ ss) d e = by (bytes_eq (star_name s) name) e (place_some (at + 1) k name ss d)
  where
    by : (b : Bool) → cond b (Some at) (place_from (at + 1) name ss) ≡ Some k → (place_from (at + 1) name ss ≡ Some k → At (at + 1) k (named name (map row ss)) ss d) → At at k (cond b (Some (row s)) (named name (map row ss))) (s ∷ ss) d
    by true e next =
        let q : at ≡ k = cc in
        let z : k - at ≡ 0 = omega arith in
        record { behind = omega arith; held = rw z }
    by false e next =
        let p = next e in
        let z : k - at ≡ suc (k - (at + 1)) = omega (arith, p.behind) in
        record { behind = omega (arith, p.behind); held = rw z p.held }

pub some_named : (name : List ℕ) (ss : List Star) (k : ℕ) (d : Star) → place_of name ss ≡ Some k → named name (map row ss) ≡ Some (row (get_or ss k d))
some_named name ss k d e =
    let p = place_some 0 k name ss d e in
    let z : k - 0 ≡ k = omega arith in
    rw (← z) p.held
