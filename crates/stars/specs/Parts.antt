-- The parts of a row, by number.
use Rattle.std.specs.Prelude.{ℕ, cond, ◌==◌}
use Rattle.protocol.specs.declared.kind.Kind.TheVariants as K
use Rattle.value.specs.Values.{whole, words}
use Rattle.sky.specs.Stars.{Row}
use Rattle.store.specs.Contents.{Typed}

-- 0 is the name, 1 the right ascension, and any other the declination
abbrev pub part_of : Row → ℕ → Typed
part_of r n =
    cond (n == 0) (record { kind = K.St; datum = words r.name })
    (cond (n == 1) (record { kind = K.In; datum = whole r.ascension }) (record { kind = K.In; datum = whole r.declination }))
