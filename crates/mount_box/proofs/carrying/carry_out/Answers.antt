use Rattle.std.proofs.Common.{ap}
use Rattle.packet.specs.Cursors.{indices_ahead, writes_ahead}
use Rattle.packet.specs.Packets.{message_of, content_of}
use Rattle.packet.specs.Messages.{count_of}
use Rattle.mount_box.proofs.Answering.{received_counted, discovery_carries}
use Rattle.mount_box.proofs.carrying.carry_out.Goals as goal

pub answer_read-requires : goal.answer_read-requires
answer_read-requires g c = received_counted (message_of c.args.request) (indices_ahead c.in-ReadRequest.indices) c.requires (ap (λ b. count_of (content_of b)) c.in-ReadRequest.is)

pub answer_write-requires : goal.answer_write-requires
answer_write-requires g c = received_counted (message_of c.args.request) (writes_ahead c.in-WriteRequest.writes) c.requires (ap (λ b. count_of (content_of b)) c.in-WriteRequest.is)

pub returns-in-DiscoveryRequest-clause-answer : goal.returns-in-DiscoveryRequest-clause-answer
returns-in-DiscoveryRequest-clause-answer g c =
    discovery_carries (g.S.Store.meaning c.args.store.now) (message_of c.args.request) c.answer_discovery.result c.args.row.now c.answer_discovery.new.row c.requires (ap content_of c.in-DiscoveryRequest.is) c.answer_discovery.ensures
