-- Coordinates as people write them: hours of right ascension, degrees of declination.
use Rattle.std.specs.Prelude.{ℕ, ◌+◌, ◌*◌, ◌/◌, ◌%◌, ◌<◌, ◌≤◌, cond, List, [], ◌∷◌, ◌++◌, codes, decimal}
use Rattle.sky.specs.declared.hours.Hours.{Hours}
use Rattle.sky.specs.declared.degrees.Degrees.{Degrees}

-- the milliseconds of time that hours, minutes, seconds and milliseconds add up to
abbrev pub time_of : Hours → ℕ
time_of t = t.hours * 3600000 + t.minutes * 60000 + t.seconds * 1000 + t.millis

-- each part below what makes one of the next
pub record Clock (t : Hours) : Type 0 where
  pub hours : t.hours < 24
  pub minutes : t.minutes < 60
  pub seconds : t.seconds < 60
  pub millis : t.millis < 1000

-- the hundredths of an arcsecond that degrees, minutes, seconds and hundredths add up to
abbrev pub arc_of : Degrees → ℕ
arc_of a = a.degrees * 360000 + a.minutes * 6000 + a.seconds * 100 + a.hundredths

pub record Arc (a : Degrees) : Type 0 where
  pub degrees : a.degrees ≤ 90
  pub minutes : a.minutes < 60
  pub seconds : a.seconds < 60
  pub hundredths : a.hundredths < 100

-- a number below 100 in two digits, and one below 1000 in three
abbrev pub two : ℕ → List ℕ
two n = decimal (n / 10) ++ decimal (n % 10)

abbrev pub three : ℕ → List ℕ
three n = decimal (n / 100) ++ two (n % 100)

-- as 18h36m56.336s
abbrev pub hours_text : Hours → List ℕ
hours_text t = two t.hours ++ (codes "h" ++ (two t.minutes ++ (codes "m" ++ (two t.seconds ++ (codes "." ++ (three t.millis ++ codes "s"))))))

-- the degree sign, in UTF-8
abbrev pub degree : List ℕ
degree = 194 ∷ 176 ∷ []

-- as +38°47'01.28"
abbrev pub degrees_text : Degrees → List ℕ
degrees_text a =
    cond a.negative (codes "-") (codes "+")
    ++ (two a.degrees ++ (degree ++ (two a.minutes ++ (codes "'" ++ (two a.seconds ++ (codes "." ++ (two a.hundredths ++ codes "\"")))))))
