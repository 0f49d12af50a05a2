-- What becomes of a packet at a box.
--     handled b sender packet   the answer, and what box, slab, reply buffer and store hold afterwards
use Rattle.std.specs.Prelude.{ℕ, ◌*◌, Bool, cond, ◌||◌, List, length, Ok, Err, Option, Result, nat_lt, slice_index_or, slice_set}
use Rattle.protocol.specs.Rows.{put_at}
use Rattle.protocol.specs.declared.refusal.Refusal.{Refusal}
use Rattle.protocol.specs.declared.refusal.Refusal.TheVariants.{ShortMemory, Direction}
use Rattle.packet.specs.Messages.{Message, Content, read_request, write_request, discovery_request, read_answer, write_answer, discovery_answer, packet_of}
use Rattle.writer.specs.Bytes.{bytes_of}
use Rattle.slab_rows.specs.Rows.{rowed}
use Rattle.slab_rows.specs.declared.place.Place.{Place}
use Rattle.slab_rows.specs.declared.place.Place.TheVariants.{Slab, Reply}
use Rattle.store.specs.Contents.{Contents}
use Rattle.mount_box.specs.declared.senders.SenderRecord.{SenderRecord}
use Rattle.mount_box.specs.Senders.{blank, noted, length_of, Standing, repeated, due, standing}
use Rattle.mount_box.specs.Carrying.{replied, left_by}

-- a box with the memory that is handed in with each call: the sixteen sender records, the slab, the reply buffer, and
-- what its store means
pub record Box : Type 0 where
  pub records : List (Option SenderRecord)
  pub slab : List ℕ
  pub reply : List ℕ
  pub contents : Contents

-- what handling answers, the place of the reply or a refusal, and the box afterwards
pub record Handling : Type 0 where
  pub answer : Result Place Refusal
  pub after : Box

-- a refusal changes nothing
abbrev pub refused : Box → Refusal → Handling
refused b reason = record { answer = Err reason; after = b }

-- the answer bears the version and the number of the request
abbrev pub reply_to : Contents → Message → Message
reply_to c m = record { version = m.version; number = m.number; content = replied c m.content }

-- Discovery replies at the start of the reply buffer, whose rest stays
abbrev pub discovered : Box → List ℕ → Handling
discovered b bytes = record {
  answer = Ok (Reply (length bytes));
  after = record { records = b.records; slab = b.slab; reply = put_at b.reply 0 bytes; contents = b.contents };
}

-- a repeat gets the kept reply, and nothing changes
abbrev pub kept : Box → ℕ → Handling
kept b k = record { answer = Ok (Slab (512 * k) (length_of (slice_index_or b.records k blank))); after = b }

-- a request that is due is carried out; the reply goes to the front of row k, and record k is the sender's
abbrev pub carried : Box → ℕ → Message → ℕ → List ℕ → Handling
carried b sender m k bytes = record {
  answer = Ok (Slab (512 * k) (length bytes));
  after = record {
    records = slice_set b.records k (noted sender m.number (length bytes));
    slab = rowed b.slab k bytes;
    reply = b.reply;
    contents = left_by b.contents m.content;
  };
}

abbrev pub by_standing : Box → ℕ → Message → Result Standing Refusal → Handling
by_standing b sender m (Err reason) = refused b reason
by_standing b sender m (Ok (repeated k)) = kept b k
by_standing b sender m (Ok (due k)) = carried b sender m k (bytes_of (reply_to b.contents m))

-- a request is served; an answer is turned down
abbrev pub by_content : Box → ℕ → Message → Content → Handling
by_content b sender m (read_request indices) = by_standing b sender m (standing b.records sender m.number)
by_content b sender m (write_request writes) = by_standing b sender m (standing b.records sender m.number)
by_content b sender m discovery_request = discovered b (bytes_of (reply_to b.contents m))
by_content b sender m (read_answer readouts) = refused b Direction
by_content b sender m (write_answer codes) = refused b Direction
by_content b sender m (discovery_answer readouts) = refused b Direction

abbrev pub by_packet : Box → ℕ → Result Message Refusal → Handling
by_packet b sender (Err reason) = refused b reason
by_packet b sender (Ok m) = by_content b sender m m.content

-- the slab has fewer than 8,192 bytes, or the reply buffer fewer than 512
abbrev pub short : Box → Bool
short b = nat_lt (length b.slab) 8192 || nat_lt (length b.reply) 512

abbrev pub handled : Box → ℕ → List ℕ → Handling
handled b sender packet = cond (short b) (refused b ShortMemory) (by_packet b sender (packet_of packet))
