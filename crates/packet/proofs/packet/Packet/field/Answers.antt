use Rattle.std.proofs.Common.{drop, ap, ◌∙◌}
use Rattle.field.specs.Fields.{first}
use Rattle.field.specs.Parts.{fields_left}
use Rattle.packet.proofs.Steps.{field_at}
use Rattle.packet.proofs.packet.Packet.field.Goals as goal

pub returns : goal.returns
returns c =
    let fields = c.args.self.now.fields in
    let r = c.nth.ensures.ran in
    let p = field_at fields r.1.0 c.nth.new.self c.from.result c.nth.result r.0 r.1.1 r.1.2 r.2 in
    record { field = p.0 ∙ ap (λ n. first (drop n (fields_left fields))) c.from.ensures; place = p.1 }
