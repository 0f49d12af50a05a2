-- The message that a packet is.
use Rattle.std.specs.Prelude.{◌≡◌, ℕ, List, Ok, Err, Result}
use Rattle.protocol.specs.declared.refusal.Refusal.{Refusal}
use Rattle.packet.specs.declared.packet.Body.{Body}
use Rattle.packet.specs.declared.packet.Body.TheVariants.{ReadRequest, WriteRequest, DiscoveryRequest, ReadAnswer, WriteAnswer, DiscoveryAnswer}
use Rattle.packet.specs.declared.packet.Packet.{Packet}
use Rattle.field.specs.Parts.{Within}
use Rattle.packet.specs.Cursors.{indices_ahead, writes_ahead, codes_ahead, readings_ahead}
use Rattle.packet.specs.Messages.{Content, read_request, write_request, discovery_request, read_answer, write_answer, discovery_answer, count_of, Message}

-- what the body of a packet asks or answers
abbrev pub content_of : Body → Content
content_of (ReadRequest c) = read_request (indices_ahead c)
content_of (WriteRequest c) = write_request (writes_ahead c)
content_of DiscoveryRequest = discovery_request
content_of (ReadAnswer c) = read_answer (readings_ahead c)
content_of (WriteAnswer c) = write_answer (codes_ahead c)
content_of (DiscoveryAnswer c) = discovery_answer (readings_ahead c)

-- the same of a reading, or the first field at fault
abbrev pub told_body : Result Body ℕ → Result Content ℕ
told_body (Ok body) = Ok (content_of body)
told_body (Err field) = Err field

-- the message that a packet is
abbrev pub message_of : Packet → Message
message_of p = record { version = p.version; number = p.number; content = content_of p.body }

-- the same of a reading, or the ground of its refusal
abbrev pub seen : Result Packet Refusal → Result Message Refusal
seen (Ok p) = Ok (message_of p)
seen (Err refusal) = Err refusal

-- how many groups the cursor of a body is said to have
abbrev pub body_count : Body → ℕ
body_count (ReadRequest c) = c.left
body_count (WriteRequest c) = c.left
body_count DiscoveryRequest = 2
body_count (ReadAnswer c) = c.left
body_count (WriteAnswer c) = c.left
body_count (DiscoveryAnswer c) = c.left

-- it has as many
abbrev pub Counted : Body → Type 0
Counted body = body_count body ≡ count_of (content_of body)

-- the parts that a body hands out stand in the packet
abbrev pub BodyWithin : List ℕ → Body → Type 0
BodyWithin packet (ReadRequest c) = Unit {0}
BodyWithin packet (WriteRequest c) = Within packet c.fields
BodyWithin packet DiscoveryRequest = Unit {0}
BodyWithin packet (ReadAnswer c) = Within packet c.fields
BodyWithin packet (WriteAnswer c) = Unit {0}
BodyWithin packet (DiscoveryAnswer c) = Within packet c.fields

-- and so do its fields
abbrev pub PacketWithin : List ℕ → Packet → Type 0
PacketWithin packet p = Within packet p.fields × BodyWithin packet p.body
