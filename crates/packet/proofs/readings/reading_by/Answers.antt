use Rattle.std.proofs.Common.{◌≡◌, Some, subst, arith}
use Rattle.field.specs.Parts.{Found}
use Rattle.packet.proofs.readings.reading_by.Goals as goal

pub returns-in_ok-text-in-Done-clause-place : goal.returns-in_ok-text-in-Done-clause-place
returns-in_ok-text-in-Done-clause-place c =
    let e : c.value_in.result ≡ Some c.in_ok-text-in-Done.text = grind arith in
    λ packet within. subst (Found packet) e (c.value_in.ensures.place packet within)
