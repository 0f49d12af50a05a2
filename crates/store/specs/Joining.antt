-- Two stores as one.
use Rattle.std.specs.Prelude.{ℕ, min, max, Bool, cond, None, Option, nat_lt}
use Rattle.store.specs.Contents.{Element, Contents, inside}

-- the ranges do not meet, and the first is the lower
abbrev pub below : Contents → Contents → Bool
below a b = nat_lt a.high b.low

-- each has its own range, and elsewhere is nothing
abbrev pub of_both : Contents → Contents → ℕ → Option Element
of_both a b i = cond (inside a i) (a.element i) (cond (inside b i) (b.element i) None)

-- from the lowest of the lower to the highest of the upper
abbrev pub beside : Contents → Contents → Contents
beside a b = record { low = a.low; high = b.high; element = of_both a b }

-- the same, of any two: from the lowest to the highest of both
abbrev pub joined : Contents → Contents → Contents
joined a b = record { low = min a.low b.low; high = max a.high b.high; element = of_both a b }
