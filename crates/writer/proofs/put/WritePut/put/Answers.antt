use Rattle.std.proofs.Common.{[], ◌∷◌, decimal, ap}
use Rattle.packet.specs.Cursors.{write_of}
use Rattle.writer.specs.Bytes.{colon}
use Rattle.writer.proofs.Drafts.{puts_as, puts_last, puts_more}
use Rattle.writer.proofs.put.WritePut.put.Goals as goal

pub returns-clause-puts : goal.returns-clause-puts
returns-clause-puts c =
    let w = write_of c.args.self.now in
    puts_more (decimal w.0) (w.1 ∷ []) c.put_number.ensures (puts_last w.1 (puts_as _ _ (ap colon c.as_bytes.ensures.value) c.put_field.ensures))
