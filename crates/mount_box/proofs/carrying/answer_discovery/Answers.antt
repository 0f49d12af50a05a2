use Rattle.field.specs.declared.words.Version.TheVariants.{V11}
use Rattle.mount_box.proofs.Answering.{who_answers}
use Rattle.mount_box.proofs.carrying.answer_discovery.Goals as goal

pub returns : goal.returns
returns g c =
    let wrote = c.write_discovery_answer.ensures in
    who_answers (g.S.Store.meaning c.args.store.now) V11 c.args.number c.write_discovery_answer.result c.args.row.now c.write_discovery_answer.new.row
    c.read.result c.read-2.result c.read.ensures c.read-2.ensures wrote.told wrote.row
