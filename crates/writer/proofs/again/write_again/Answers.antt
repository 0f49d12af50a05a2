use Rattle.std.proofs.Common.{sym}
use Rattle.packet.specs.Packets.{message_of}
use Rattle.writer.proofs.Respelling.{ruled_again, rewrote}
use Rattle.writer.proofs.again.write_again.Goals as goal

pub returns : goal.returns
returns c =
    let bytes = c.args.bytes.now in
    let m = message_of c.in_ok-read_packet.field-0 in
    let read = sym c.in_ok-read_packet.ensures.read in
    let e = rewrote bytes c.args.row.now m read c.if-row-lt512.false (c.write_packet.ensures (ruled_again bytes m read)) in
    record { told = e.told; row = e.row; back = e.back; short = e.short; same = e.same; once = e.once }
