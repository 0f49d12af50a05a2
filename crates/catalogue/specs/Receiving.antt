-- Receiving an answer, and Discovery.
use Rattle.std.specs.Prelude.{ℕ, ◌+◌, Bool, cond, ◌&&◌, List, length, Some, None, Ok, Err, codes, Option, Result, ◌==◌, nat_lt, slice_set}
use Rattle.protocol.specs.declared.refusal.Refusal.{Refusal}
use Rattle.protocol.specs.declared.refusal.Refusal.TheVariants.{ShortMemory, Direction, Unknown, NoMatch}
use Rattle.protocol.specs.Rows.{put_at}
use Rattle.slab_rows.specs.declared.place.Place.{Place}
use Rattle.slab_rows.specs.declared.place.Place.TheVariants.{Reply}
use Rattle.field.specs.Words.{command_number}
use Rattle.packet.specs.Messages.{Message, Content, read_request, write_request, discovery_request, read_answer, write_answer, discovery_answer, command_of, count_of, packet_of}
use Rattle.catalogue.specs.declared.partner.Waiting.{Waiting}
use Rattle.catalogue.specs.declared.told.Counts.{Counts}
use Rattle.catalogue.specs.Stations.{Station, freed, partner_at, unknown}
use Rattle.catalogue.specs.Opening.{partner}

-- the answer that was accepted or a refusal, and the catalogue afterwards
pub record Receiving : Type 0 where
  pub answer : Result Message Refusal
  pub after : Station

-- a refusal changes nothing
abbrev pub not_received : Station → Refusal → Receiving
not_received s reason = record { answer = Err reason; after = s }

-- one more was answered
abbrev pub count_answered : Counts → Counts
count_answered c = record { opened = c.opened; answered = c.answered + 1; failed = c.failed; withdrawn = c.withdrawn; repeated = c.repeated }

-- number, command and count of groups are those of the transaction
abbrev pub agrees : Waiting → Message → Bool
agrees w m =
    (w.number == m.number)
    && (command_number w.command == command_number (command_of m.content) && w.count == count_of m.content)

-- the k-th partner's transaction is settled as answered
abbrev pub answered : Station → ℕ → Message → Receiving
answered s k m = record {
  answer = Ok m;
  after = record { timing = s.timing; clock = s.clock; partners = slice_set s.partners k (freed (partner s k)); counts = count_answered s.counts };
}

abbrev pub for_waiting : Station → ℕ → Message → Option Waiting → Receiving
for_waiting s k m None = not_received s NoMatch
for_waiting s k m (Some w) = cond (agrees w m) (answered s k m) (not_received s NoMatch)

abbrev pub from_partner : Station → ℕ → Message → Receiving
from_partner s k m = cond (unknown s k) (not_received s Unknown) (for_waiting s k m (partner s k).waiting)

-- a request is turned down
abbrev pub by_content : Station → ℕ → Message → Content → Receiving
by_content s sender m (read_request indices) = not_received s Direction
by_content s sender m (write_request writes) = not_received s Direction
by_content s sender m discovery_request = not_received s Direction
by_content s sender m (read_answer readouts) = from_partner s (partner_at s.partners sender) m
by_content s sender m (write_answer codes) = from_partner s (partner_at s.partners sender) m
by_content s sender m (discovery_answer readouts) = from_partner s (partner_at s.partners sender) m

abbrev pub by_packet : Station → ℕ → Result Message Refusal → Receiving
by_packet s sender (Err reason) = not_received s reason
by_packet s sender (Ok m) = by_content s sender m m.content

abbrev pub receiving : Station → ℕ → List ℕ → Receiving
receiving s sender packet = by_packet s sender (packet_of packet)

-- the place of a Discovery request or a refusal, and the reply buffer afterwards
pub record Discovering : Type 0 where
  pub answer : Result Place Refusal
  pub reply : List ℕ

-- a Discovery request always has the number 0
abbrev pub discovery_bytes : List ℕ
discovery_bytes = codes "{1.1:R:0:3:2:3}"

abbrev pub discovering : List ℕ → Discovering
discovering reply =
    cond (nat_lt (length reply) 512) (record { answer = Err ShortMemory; reply = reply })
    (record { answer = Ok (Reply (length discovery_bytes)); reply = put_at reply 0 discovery_bytes })

-- a Discovery answer is read without a partner; any other answer is turned down
abbrev pub discovery_by : Message → Content → Result Message Refusal
discovery_by m (read_request indices) = Err Direction
discovery_by m (write_request writes) = Err Direction
discovery_by m discovery_request = Err Direction
discovery_by m (read_answer readouts) = Err NoMatch
discovery_by m (write_answer codes) = Err NoMatch
discovery_by m (discovery_answer readouts) = Ok m

abbrev pub discovery_in : Result Message Refusal → Result Message Refusal
discovery_in (Err reason) = Err reason
discovery_in (Ok m) = discovery_by m m.content

abbrev pub discovery_read : List ℕ → Result Message Refusal
discovery_read packet = discovery_in (packet_of packet)
