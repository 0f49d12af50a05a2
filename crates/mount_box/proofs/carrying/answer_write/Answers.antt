use Rattle.packet.specs.Cursors.{writes_ahead}
use Rattle.mount_box.proofs.Answering.{few}
use Rattle.mount_box.proofs.carrying.answer_write.Goals as goal

pub write_all-count-requires : goal.write_all-count-requires
write_all-count-requires g c = few (writes_ahead c.args.writes) c.requires
