-- The ways that a packet can go at a box.
--     Handles, handles   refused, a repeat, carried out, or Discovery
use Rattle.std.proofs.Common.{◌≡◌, ℕ, Bool, true, false, cond, List, Ok, Err, Result, sym, refl, subst}
use Rattle.protocol.specs.declared.refusal.Refusal.{Refusal}
use Rattle.protocol.specs.declared.refusal.Refusal.TheVariants.{ShortMemory, Direction}
use Rattle.packet.specs.Messages.{Message, Content, read_request, write_request, discovery_request, read_answer, write_answer, discovery_answer, packet_of}
use Rattle.writer.specs.Bytes.{bytes_of}
use Rattle.mount_box.specs.Senders.{Standing, repeated, due, standing}
use Rattle.mount_box.specs.Answers.{Orders}
use Rattle.mount_box.specs.Handling.{Box, Handling, refused, reply_to, discovered, kept, carried, by_standing, by_content, by_packet, short, handled}

pub data Handles (b : Box) (sender : ℕ) (packet : List ℕ) : Handling → Type 0 where
  stopped : (reason : Refusal) → Handles b sender packet (refused b reason)
  again : (m : Message) (k : ℕ) → short b ≡ false → packet_of packet ≡ Ok m → Orders m.content → standing b.records sender m.number ≡ Ok (repeated k) → Handles b sender packet (kept b k)
  done : (m : Message) (k : ℕ) → short b ≡ false → packet_of packet ≡ Ok m → Orders m.content → standing b.records sender m.number ≡ Ok (due k) → Handles b sender packet (carried b sender m k (bytes_of (reply_to b.contents m)))
  told : (m : Message) → short b ≡ false → packet_of packet ≡ Ok m → m.content ≡ discovery_request → Handles b sender packet (discovered b (bytes_of (reply_to b.contents m)))

module _ (b : Box) (sender : ℕ) (packet : List ℕ) where
  module _ (m : Message) (s : short b ≡ false) (p : packet_of packet ≡ Ok m) where
    standing_way : (st : Result Standing Refusal) → standing b.records sender m.number ≡ st → Orders m.content → Handles b sender packet (by_standing b sender m st)
    standing_way (Err reason) e o = stopped reason
    standing_way (Ok (repeated k)) e o = again m k s p o e
    standing_way (Ok (due k)) e o = done m k s p o e

    content_way : (content : Content) → m.content ≡ content → Handles b sender packet (by_content b sender m content)
    content_way (read_request is) e = standing_way (standing b.records sender m.number) refl (subst Orders (sym e) tt)
    content_way (write_request ws) e = standing_way (standing b.records sender m.number) refl (subst Orders (sym e) tt)
    content_way discovery_request e = told m s p e
    content_way (read_answer xs) e = stopped Direction
    content_way (write_answer cs) e = stopped Direction
    content_way (discovery_answer xs) e = stopped Direction

  packet_way : (r : Result Message Refusal) → short b ≡ false → packet_of packet ≡ r → Handles b sender packet (by_packet b sender r)
  packet_way (Err reason) s p = stopped reason
  packet_way (Ok m) s p = content_way m s p m.content refl

  memory_way : (t : Bool) → short b ≡ t → Handles b sender packet (cond t (refused b ShortMemory) (by_packet b sender (packet_of packet)))
  memory_way true s = stopped ShortMemory
  memory_way false s = packet_way (packet_of packet) s refl

  pub handles : Handles b sender packet (handled b sender packet)
  handles = memory_way (short b) refl
