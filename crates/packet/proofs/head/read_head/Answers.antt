use Rattle.std.proofs.Common.{refl}
use Rattle.field.specs.Parts.{fields_left}
use Rattle.packet.proofs.Steps.{turn, head_from}
use Rattle.packet.proofs.head.read_head.Goals as goal

pub returns : goal.returns
returns c =
    let all = fields_left c.args.fields.now in
    let v = c.next-version.ensures.steps in
    let d = c.next-direction.ensures.steps in
    let n = c.next-number.ensures.steps in
    let m = c.next-command.ensures.steps in
    let p = turn all 0 _ _ _ refl v in
    let q = turn all 1 _ _ _ p.1 d in
    let r = turn all 2 _ _ _ q.1 n in
    let s = turn all 3 _ _ _ r.1 m in
    record {
      head = head_from all _ _ _ _ c.head_by.ensures p.0 q.0 r.0 s.0;
      after = s.1;
      onward = λ packet within. m.2 packet (n.2 packet (d.2 packet (v.2 packet within)));
    }
