-- What handling promises, in the words of the link.
--     Repeats   a number again gets the same reply, and changes nothing
--     Groups    what is carried out is replied group by group, each group after the ones before it
--     Others    nothing changes but the sender's own record and the place of the reply
--     Back      the reply reads back as the answer to the request
use Rattle.std.specs.Prelude.{◌≡◌, ℕ, ◌+◌, ◌*◌, ◌<◌, ◌≤◌, true, ◌⊎◌, List, length, take, Ok, Err, Result, ◌≢◌, slice_index, slice_index_or}
use Rattle.protocol.specs.declared.code.Code.{Code}
use Rattle.protocol.specs.declared.refusal.Refusal.{Refusal}
use Rattle.packet.specs.Groups.{Readout}
use Rattle.packet.specs.Messages.{Message, Content, read_request, write_request, discovery_request, read_answer, write_answer, discovery_answer, packet_of}
use Rattle.slab_rows.specs.Places.{part_of}
use Rattle.slab_rows.specs.declared.place.Place.{Place}
use Rattle.slab_rows.specs.declared.place.Place.TheVariants.{Slab, Reply}
use Rattle.store.specs.Contents.{Contents}
use Rattle.store.specs.Owner.{write_text_of}
use Rattle.mount_box.specs.Senders.{blank, is_of, is_empty, due, standing}
use Rattle.mount_box.specs.Carrying.{coded, shown, after_writes}
use Rattle.mount_box.specs.Answers.{Orders}
use Rattle.mount_box.specs.Handling.{Box, Handling, reply_to, handled}

-- where a place was told for a read or write request, every such request of this sender with its number gets that place
-- again, and changes nothing
abbrev pub Repeats : ℕ → List ℕ → Handling → Type 0
Repeats sender packet h =
    (m n : Message) (place : Place) (again : List ℕ)
    → packet_of packet ≡ Ok m → Orders m.content → h.answer ≡ Ok place
    → packet_of again ≡ Ok n → Orders n.content → n.number ≡ m.number
    → handled h.after sender again ≡ h

-- the answer to a read has for each index what the store has there, and the store stays
pub record ReadGroups (c : Contents) (indices : List ℕ) (answer : Content) (after : Contents) : Type 0 where
  pub readouts : List Readout
  pub answer_is : answer ≡ read_answer readouts
  pub count : length readouts ≡ length indices
  pub each : (i : ℕ) (x : Readout) → i < length indices → slice_index_or readouts i x ≡ shown c (slice_index indices i)
  pub stays : after ≡ c

-- the answer to a write has for each write its code on the store as the writes before it left it, and all of them leave the store
pub record WriteGroups (c : Contents) (writes : List (ℕ × List ℕ)) (answer : Content) (after : Contents) : Type 0 where
  pub codes : List Code
  pub answer_is : answer ≡ write_answer codes
  pub count : length codes ≡ length writes
  pub each : (i : ℕ) (w : ℕ × List ℕ) (x : Code) → i < length writes → slice_index_or writes i w ≡ w → slice_index_or codes i x ≡ coded (write_text_of (after_writes c (take i writes)) w.0 w.1).code
  pub leaves : after ≡ after_writes c writes

abbrev pub Groupwise : Contents → Content → Content → Contents → Type 0
Groupwise c (read_request indices) answer after = ReadGroups c indices answer after
Groupwise c (write_request writes) answer after = WriteGroups c writes answer after
Groupwise c discovery_request answer after = Unit {0}
Groupwise c (read_answer readouts) answer after = Unit {0}
Groupwise c (write_answer codes) answer after = Unit {0}
Groupwise c (discovery_answer readouts) answer after = Unit {0}

-- where a request was due, what is read at the place told is its answer, group by group
abbrev pub Groups : Box → ℕ → List ℕ → Handling → Type 0
Groups b sender packet h =
    (m answer : Message) (k : ℕ) (place : Place) (bytes : List ℕ)
    → packet_of packet ≡ Ok m → Orders m.content → standing b.records sender m.number ≡ Ok (due k) → h.answer ≡ Ok place
    → part_of place h.after.slab h.after.reply ≡ Ok bytes → packet_of bytes ≡ Ok answer
    → Groupwise b.contents m.content answer.content h.after.contents

-- memory stays but for n bytes from a start on
pub record Outside (start n : ℕ) (before after : List ℕ) : Type 0 where
  pub long : length after ≡ length before
  pub below : (i : ℕ) → i < start → slice_index after i ≡ slice_index before i
  pub behind : (i : ℕ) → start + n ≤ i → slice_index after i ≡ slice_index before i

-- a reply in the slab: it begins a row, and the record of that row, which was empty or the sender's, is the sender's. All other
-- records, the rest of the slab and the reply buffer stay
pub record OwnRow (b : Box) (sender start n : ℕ) (after : Box) : Type 0 where
  pub row : ℕ
  pub inside : row < 16
  pub begins : start ≡ 512 * row
  pub was : (is_of sender (slice_index_or b.records row blank) ≡ true) ⊎ (is_empty (slice_index_or b.records row blank) ≡ true)
  pub own : is_of sender (slice_index_or after.records row blank) ≡ true
  pub records : (k : ℕ) → (k ≢ row) → slice_index_or after.records k blank ≡ slice_index_or b.records k blank
  pub slab : Outside start n b.slab after.slab
  pub reply : after.reply ≡ b.reply

-- a reply in the reply buffer: the rest of that buffer and all else stay
pub record Aside (b : Box) (n : ℕ) (after : Box) : Type 0 where
  pub records : after.records ≡ b.records
  pub slab : after.slab ≡ b.slab
  pub contents : after.contents ≡ b.contents
  pub reply : Outside 0 n b.reply after.reply

abbrev pub OthersBy : Box → ℕ → Result Place Refusal → Box → Type 0
OthersBy b sender (Err reason) after = after ≡ b
OthersBy b sender (Ok (Slab start n)) after = OwnRow b sender start n after
OthersBy b sender (Ok (Reply n)) after = Aside b n after

-- a refusal changes nothing, and a reply only what is the sender's own
abbrev pub Others : Box → ℕ → Handling → Type 0
Others b sender h = OthersBy b sender h.answer h.after

-- what lies at the place has at most 485 bytes, and is read as the message
pub record ReadsAt (place : Place) (after : Box) (m : Message) : Type 0 where
  pub bytes : List ℕ
  pub part : part_of place after.slab after.reply ≡ Ok bytes
  pub few : length bytes ≤ 485
  pub read : packet_of bytes ≡ Ok m

-- so it is where a request was due, or Discovery was asked
pub record Back (b : Box) (sender : ℕ) (packet : List ℕ) (h : Handling) : Type 0 where
  pub carried : (m : Message) (k : ℕ) (place : Place) → packet_of packet ≡ Ok m → Orders m.content → standing b.records sender m.number ≡ Ok (due k) → h.answer ≡ Ok place → ReadsAt place h.after (reply_to b.contents m)
  pub discovered : (m : Message) (place : Place) → packet_of packet ≡ Ok m → m.content ≡ discovery_request → h.answer ≡ Ok place → ReadsAt place h.after (reply_to b.contents m)
