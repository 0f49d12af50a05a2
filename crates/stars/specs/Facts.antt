-- What rows of a star catalogue give a store.
--     name_of r, ascension_of r, declination_of r   the three elements of a row
--     facts rs                                      the elements of all rows, in order
--     stars_of rs                                   what the star rows mean
--     Placed rs c                                   where each row stands in a store
use Rattle.std.specs.Prelude.{◌≡◌, ℕ, ◌+◌, ◌-◌, ◌*◌, ◌<◌, Bool, cond, ◌&&◌, List, [], ◌∷◌, length, ℤ, Some, None, Option, nat_le, slice_index_or}
use Rattle.std.specs.List.{slice_get}
use Rattle.protocol.specs.declared.kind.Kind.TheVariants as K
use Rattle.value.specs.Values.{whole, words}
use Rattle.sky.specs.Stars.{Row}
use Rattle.store.specs.Contents.{Element, Contents, fixed}

abbrev pub name_of : Row → Element
name_of r = fixed (record { kind = K.St; datum = words r.name })

-- a fixed In
abbrev pub angle : ℤ → Element
angle z = fixed (record { kind = K.In; datum = whole z })

abbrev pub ascension_of : Row → Element
ascension_of r = angle r.ascension

abbrev pub declination_of : Row → Element
declination_of r = angle r.declination

abbrev pub facts : List Row → List Element
facts [] = []
facts (r ∷ rs) = name_of r ∷ (ascension_of r ∷ (declination_of r ∷ facts rs))

-- the facts from index 100 on
abbrev pub star_element : List Row → ℕ → Option Element
star_element rs i = cond (nat_le 100 i) (slice_get (facts rs) (i - 100)) None

-- from 100 to the last index, three for each row
abbrev pub stars_of : List Row → Contents
stars_of rs = record { low = 100; high = 99 + 3 * length rs; element = star_element rs }

-- 1 to 20,000 rows
abbrev pub counted : ℕ → Bool
counted n = nat_le 1 n && nat_le n 20000

-- row k gives index 100 + 3 × k the name, and the next two its angles
pub record Placed (rs : List Row) (c : Contents) : Type 0 where
  pub name : (k : ℕ) (d : Row) → k < length rs → c.element (100 + 3 * k) ≡ Some (name_of (slice_index_or rs k d))
  pub ascension : (k : ℕ) (d : Row) → k < length rs → c.element (100 + 3 * k + 1) ≡ Some (ascension_of (slice_index_or rs k d))
  pub declination : (k : ℕ) (d : Row) → k < length rs → c.element (100 + 3 * k + 2) ≡ Some (declination_of (slice_index_or rs k d))
