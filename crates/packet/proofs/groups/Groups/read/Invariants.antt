use Rattle.std.proofs.Common.{◌-◌, ◌≤◌}
use Rattle.field.specs.Parts.{fields_left}
use Rattle.packet.proofs.Ahead.{Passed}
use Rattle.packet.proofs.groups.Groups.read.Given as goal

abbrev pub invariant-loop-rest : goal.invariant-loop-rest
invariant-loop-rest g l =
    (l.count ≤ l.most)
    × Passed g.G.Width.WIDTH g.G.Group.group l.count (fields_left l.all) (fields_left l.rest)

abbrev pub decreases-loop-rest : goal.decreases-loop-rest
decreases-loop-rest g l = l.most - l.count
