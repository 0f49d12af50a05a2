-- The reals that decimals hold.
use Rattle.decimal.specs.declared.real.Real.{Real}
use Rattle.decimal.specs.declared.normal.NormalReal.{NormalReal}
use Rattle.decimal.specs.declared.ranged.Ranged.{Ranged}

abbrev pub normal_real : NormalReal → Real
normal_real d = d.real

-- of a decimal in any reach, as Single and Decimal
abbrev pub real_of : {R B : _} → Ranged R B → Real
real_of d = normal_real d.real
