-- Carrying out what a packet says, with the answer at the front of a row.
--     Received m                   the message was read from some packet
--     Orders content               it asks to read or to write
--     Answers m r before after     the answer m was written
--     Carries c m r before after   a message was carried out where the store means c
use Rattle.std.specs.Prelude.{◌≡◌, ℕ, true, List, Ok, Err, Result}
use Rattle.protocol.specs.declared.refusal.Refusal.{Refusal}
use Rattle.protocol.specs.declared.refusal.Refusal.TheVariants as R
use Rattle.field.specs.declared.words.Direction.{Direction}
use Rattle.field.specs.declared.words.Direction.TheVariants.{Request, Answer}
use Rattle.packet.specs.Messages.{Message, Content, read_request, write_request, discovery_request, read_answer, write_answer, discovery_answer, direction_of, packet_of}
use Rattle.writer.specs.Written.{written}
use Rattle.store.specs.Contents.{Contents}
use Rattle.mount_box.specs.Handling.{reply_to}

-- the message was read from some packet
abbrev pub Received : Message → Type 0
Received m = (bytes : List ℕ) × (packet_of bytes ≡ Ok m)

-- in a row of 512 bytes or more the packet stands at the start, the rest of the row is as it was, and its length is told;
-- a shorter row stays, and gets the refusal
pub record Answers (m : Message) (r : Result ℕ Refusal) (before after : List ℕ) : Type 0 where
  pub told : r ≡ (written true m before).told
  pub row : after ≡ (written true m before).row

-- a request is answered, an answer turned down
abbrev pub CarriesBy : Direction → Contents → Message → Result ℕ Refusal → List ℕ → List ℕ → Type 0
CarriesBy Request c m r before after = Answers (reply_to c m) r before after
CarriesBy Answer c m r before after = (r ≡ Err R.Direction) × (after ≡ before)

abbrev pub Carries : Contents → Message → Result ℕ Refusal → List ℕ → List ℕ → Type 0
Carries c m r before after = CarriesBy (direction_of m.content) c m r before after

-- the message asks to read or to write
abbrev pub Orders : Content → Type 0
Orders (read_request indices) = Unit {0}
Orders (write_request writes) = Unit {0}
Orders discovery_request = ⊥
Orders (read_answer readouts) = ⊥
Orders (write_answer codes) = ⊥
Orders (discovery_answer readouts) = ⊥
