use Rattle.std.proofs.Common.{◌≡◌, Some, Ok, rules, sym, subst, arith}
use Rattle.std.proofs.lemmas.Result.{IfOk-at_ok}
use Rattle.field.specs.Parts.{Found}
use Rattle.field.proofs.Results.{ok_of}
use Rattle.packet.specs.declared.packet.Packet.{Packet}
use Rattle.packet.specs.Messages.{packet_of}
use Rattle.packet.specs.Packets.{seen}
use Rattle.packet.proofs.Bounds.{bounded, kept}
use Rattle.packet.proofs.packet.read_packet.Goals as goal

pub returns : goal.returns
returns c =
    let bytes = c.args.bytes.now in
    let all = c.in_ok-all.ensures in
    let head = c.in_ok-head.head in
    let p : Packet = record { fields = c.in_ok-all.all; version = head.version; number = head.number; body = c.in_ok-body.body } in
    let read : seen (Ok p) ≡ packet_of bytes = search rules in
    let rest : c.read_head.new.fields.rest ≡ Some c.in_ok-payload.payload = grind arith in
    let body = ok_of _ _ c.read_body.result c.in_ok-body.body c.in_ok-body.ensures.cases c.in_ok-body.ensures.variant in
    record {
      read = read;
      count = IfOk-at_ok _ body c.read_body.ensures.count;
      bounds = bounded bytes _ (sym read);
      kept = kept bytes _ (sym read);
      fields = all.fields;
      place = (all.place, IfOk-at_ok _ body c.read_body.ensures.place bytes (subst (Found bytes) rest (c.read_head.ensures.onward bytes all.place)));
    }
