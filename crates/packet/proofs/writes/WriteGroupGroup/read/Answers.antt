use Rattle.std.proofs.Common.{◌≡◌, Some, subst, arith}
use Rattle.field.specs.Parts.{Found}
use Rattle.packet.proofs.Steps.{onward_twice}
use Rattle.packet.proofs.writes.WriteGroupGroup.read.Goals as goal

pub returns-in_err-text-clause-onward : goal.returns-in_err-text-clause-onward
returns-in_err-text-clause-onward c = onward_twice _ _ _ c.next.ensures.steps.2 c.next-2.ensures.steps.2

pub returns-clause-place : goal.returns-clause-place
returns-clause-place c =
    let e : c.text_in.result ≡ Some c.in_ok-text.text = grind arith in
    λ packet within. subst (Found packet) e (c.text_in.ensures.place packet (c.next-2.ensures.steps.1 packet (c.next.ensures.steps.2 packet within)))

pub returns-clause-onward : goal.returns-clause-onward
returns-clause-onward c = onward_twice _ _ _ c.next.ensures.steps.2 c.next-2.ensures.steps.2
