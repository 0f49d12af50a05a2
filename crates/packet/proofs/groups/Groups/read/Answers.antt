use Rattle.std.proofs.Common.{◌≤◌, ◌*◌, ap, ◌∙◌, arith}
use Rattle.std.proofs.lemmas.Nat.{mul-le}
use Rattle.field.specs.Fields.{fields}
use Rattle.field.specs.Parts.{part_bytes, fields_left}
use Rattle.packet.specs.Groups.{groups}
use Rattle.packet.proofs.Ahead.{passed_more, passed_over, passed_broken, passed_all, passed_short}
use Rattle.packet.proofs.groups.Groups.read.Goals as goal

pub returns-then-count-most-clause-groups : goal.returns-then-count-most-clause-groups
returns-then-count-most-clause-groups g c =
    let all = fields (part_bytes c.args.payload) in
    let n = c.loop-rest.count in
    rw c.WIDTH.ensures (passed_over _ g.G.Group.group n all _ c.loop-rest.invariant.1 g.G.Group.none 4 c.args.least c.loop-rest-test.ensures
    ∙ ap (groups _ g.G.Group.group 4 c.args.least all) c.if-count-most.true)

pub loop-rest-preserved : goal.loop-rest-preserved
loop-rest-preserved g c =
    (omega arith, passed_more _ _ _ _ _ c.loop-rest.invariant.1 _ (fields_left c.read.new.fields) c.in-Ok.ensures.group c.in-Ok.ensures.after)

pub returns-in-Err-clause-groups : goal.returns-in-Err-clause-groups
returns-in-Err-clause-groups g c =
    rw c.WIDTH.ensures (passed_broken _ _ _ _ _ c.loop-rest.invariant.1 g.G.Group.none 4 c.args.least c.args.most c.in-Err.place c.loop-rest-test.ensures (omega arith) c.in-Err.ensures.group)

pub returns-then-count-least-clause-groups : goal.returns-then-count-least-clause-groups
returns-then-count-least-clause-groups g c =
    rw c.WIDTH-then-count-least.ensures (passed_short _ _ _ _ _ c.loop-rest.invariant.1 g.G.Group.none 4 c.args.least c.args.most c.loop-rest-test.ensures c.if-count-least.true c.loop-rest.invariant.0)

pub returns-clause-groups : goal.returns-clause-groups
returns-clause-groups g c =
    passed_all _ _ _ _ _ c.loop-rest.invariant.1 g.G.Group.none 4 c.args.least c.args.most c.loop-rest-test.ensures c.if-count-least.false c.loop-rest.invariant.0

pub overflow_add-result : goal.overflow_add-result
overflow_add-result g c =
    let few : c.WIDTH.result * c.loop-rest.count ≤ 3 * 10 = mul-le _ _ 3 10 (omega (arith, c.WIDTH.ensures, g.G.Width.narrow)) (omega arith) in
    omega (arith, c.WIDTH.ensures, g.G.Width.narrow, c.in-Err.ensures.bound)
