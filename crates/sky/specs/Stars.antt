-- Stars: what a star holds, and which numbers make one.
--     star_name s, star_ascension s, star_declination s      what a star holds
--     star_of name ascension declination                     the star of these, or the first number out of its range
use Rattle.std.specs.Prelude.{ℕ, Bool, cond, ◌&&◌, List, ℤ, pos, negsuc, Ok, Err, Result, int_le}
use Rattle.std.specs.Result.{result_map_both}
use Rattle.protocol.specs.Held.{text_bytes}
use Rattle.sky.specs.declared.star.Star.{Star}
use Rattle.sky.specs.declared.fault.RowFault.{RowFault}
use Rattle.sky.specs.declared.fault.RowFault.TheVariants.{Ascension, Declination}

abbrev pub star_name : Star → List ℕ
star_name s = text_bytes s.name

abbrev pub star_ascension : Star → ℤ
star_ascension s = s.ascension

abbrev pub star_declination : Star → ℤ
star_declination s = s.declination

-- a row of the catalogue: the bytes of the name, and the two angles in milliarcseconds
pub record Row : Type 0 where
  pub name : List ℕ
  pub ascension : ℤ
  pub declination : ℤ

-- the row of a star
abbrev pub row : Star → Row
row s = record { name = star_name s; ascension = star_ascension s; declination = star_declination s }

-- the row of the star that was made, or the fault
abbrev pub made_row : Result Star RowFault → Result Row RowFault
made_row r = result_map_both row (λ fault. fault) r

-- at least the first, and at most the second
abbrev pub between : ℤ → ℤ → ℤ → Bool
between low high z = int_le low z && int_le z high

-- from 0 to one short of 360 degrees
abbrev pub ascends : ℤ → Bool
ascends a = between (pos 0) (pos 1295999999) a

-- from -90 to 90 degrees
abbrev pub declines : ℤ → Bool
declines d = between (negsuc 323999999) (pos 324000000) d

-- the star of a name and two angles, or the first angle out of its range
abbrev pub star_of : List ℕ → ℤ → ℤ → Result Row RowFault
star_of name a d = cond (ascends a) (cond (declines d) (Ok (record { name = name; ascension = a; declination = d })) (Err Declination)) (Err Ascension)
