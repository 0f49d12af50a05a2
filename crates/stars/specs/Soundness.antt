-- Star rows are sound.
use Rattle.std.specs.Prelude.{ℕ, zero, suc, ◌≤◌, Bool, true, false, cond, List, [], ◌∷◌, map, length, ℤ, pos, negsuc, ◌≤ℤ◌, Some, None, Option, FitsSigned, nat_le}
use Rattle.std.proofs.Common.{arith, rules}
use Rattle.std.specs.Int.{w32}
use Rattle.std.proofs.lemmas.List.{length-map}
use Rattle.std.proofs.lemmas.Int.{ints}
use Rattle.std.specs.List.{slice_get}
use Rattle.value.specs.declared.value.Value.TheVariants as V
use Rattle.value.proofs.Readings.{value_valid}
use Rattle.sky.specs.Stars.{row}
use Rattle.sky.specs.declared.star.Star.{Star}
use Rattle.store.specs.Contents.{Element, ValidIn, Sound}
use Rattle.stars.specs.Facts.{name_of, ascension_of, declination_of, facts, stars_of}
use Rattle.stars.specs.Counting.{nothing_outside}

name_valid : (s : Star) → ValidIn (Some (name_of (row s)))
name_valid s = value_valid (V.St s.name) tt

turn_fits : (z : ℤ) → pos 0 ≤ℤ z → z ≤ℤ pos 1295999999 → FitsSigned w32 z
turn_fits z a b = search (rules, ints)

tilt_fits : (z : ℤ) → negsuc 323999999 ≤ℤ z → z ≤ℤ pos 324000000 → FitsSigned w32 z
tilt_fits z a b = search (rules, ints)

ascension_valid : (s : Star) → ValidIn (Some (ascension_of (row s)))
ascension_valid s = value_valid (V.In s.ascension) (turn_fits s.ascension s.turn.0 s.turn.1)

declination_valid : (s : Star) → ValidIn (Some (declination_of (row s)))
declination_valid s = value_valid (V.In s.declination) (tilt_fits s.declination s.tilt.0 s.tilt.1)

facts_valid : (xs : List Star) (n : ℕ) → ValidIn (slice_get (facts (map row xs)) n)
facts_valid [] n = tt
facts_valid (x ∷ xs) zero = name_valid x
facts_valid (x ∷ xs) (suc zero) = ascension_valid x
facts_valid (x ∷ xs) (suc (suc zero)) = declination_valid x
facts_valid (x ∷ xs) (suc (suc (suc n))) = facts_valid xs n

or_none : (b : Bool) (o : Option Element) → ValidIn o → ValidIn (cond b o None)
or_none true o v = v
or_none false o v = tt

pub stars_sound : (xs : List Star) → 1 ≤ length xs → length xs ≤ 20000 → Sound (stars_of (map row xs))
stars_sound xs a b = record {
  ordered = omega (arith, length-map xs row);
  narrow = omega (arith, length-map xs row);
  bounded = nothing_outside (map row xs);
  valid = λ i. or_none (nat_le 100 i) _ (facts_valid xs _);
}
