use Rattle.std.proofs.Common.{take}
use Rattle.packet.specs.Cursors.{indices_ahead}
use Rattle.mount_box.proofs.Answering.{few, read_answers}
use Rattle.mount_box.proofs.carrying.answer_read.Goals as goal

pub read_all-count-requires : goal.read_all-count-requires
read_all-count-requires g c = few (indices_ahead c.args.indices) c.requires

pub returns : goal.returns
returns g c =
    let wrote = c.write_read_answer.ensures in
    read_answers (g.S.Store.meaning c.args.store.now) c.args.version c.args.number c.write_read_answer.result c.args.row.now c.write_read_answer.new.row
    (take c.read_all-count.result c.read_all-count.new.readings) (indices_ahead c.args.indices) c.read_all-count.ensures.readings c.requires wrote.told wrote.row
