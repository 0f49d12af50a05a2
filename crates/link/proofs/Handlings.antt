-- The ways that handling a packet can go.
--     place b s       which record is that of the sender s
--     Serves b s n k  a request number n of s is due to be carried out for record k
--     Handled b s r x a packet of s that reads as r is handled so: turned down, shown, given again or carried out
use Rattle.std.proofs.Common.{◌≡◌, ℕ, ◌<◌, ◌≤◌, Bool, true, false, cond, eqb, ltb, List, length, get_or, Ok, Err, Option, Result, refl, ap, arith}
use Rattle.std.proofs.lemmas.Bool.{eqb-true, eqb-false, ltb-true, ltb-false, or_parts}
use Rattle.protocol.specs.declared.refusal.Refusal.{Refusal}
use Rattle.protocol.specs.declared.refusal.Refusal.TheVariants.{ShortMemory, Direction, Unknown, OldNumber}
use Rattle.packet.specs.Messages.{Message, Content, read_request, write_request, discovery_request, read_answer, write_answer, discovery_answer, packet_of}
use Rattle.writer.specs.Bytes.{bytes_of}
use Rattle.slab_rows.specs.Searches.{first_by}
use Rattle.mount_box.specs.declared.senders.SenderRecord.{SenderRecord}
use Rattle.mount_box.specs.Senders.{blank, is_of, is_empty, newest_of, repeated, due, by_number}
use Rattle.mount_box.specs.Handling.{Box, Handling, refused, reply_to, discovered, kept, carried, by_standing, by_content, by_packet, short, handled}
use Rattle.link.specs.Carryings.{transacts}

abbrev pub place : Box → ℕ → ℕ
place b s = first_by (is_of s) b.records

abbrev pub record_at : Box → ℕ → Option SenderRecord
record_at b k = get_or b.records k blank

-- slab and reply buffer are long enough
pub record Roomy (b : Box) : Type 0 where
  pub slab : 8192 ≤ length b.slab
  pub reply : 512 ≤ length b.reply

pub data Serves (b : Box) (s n : ℕ) : ℕ → Type 0 where
  known : place b s < 16 → newest_of (record_at b (place b s)) < n → Serves b s n (place b s)
  fresh : 16 ≤ place b s → first_by is_empty b.records < 16 → Serves b s n (first_by is_empty b.records)

pub data Handled (b : Box) (s : ℕ) : Result Message Refusal → Handling → Type 0 where
  turns : {r : Result Message Refusal} (reason : Refusal) → Handled b s r (refused b reason)
  shows : {m : Message} → Roomy b → m.content ≡ discovery_request → Handled b s (Ok m) (discovered b (bytes_of (reply_to b.contents m)))
  again : {m : Message} → Roomy b → transacts m.content ≡ true → place b s < 16 → m.number ≡ newest_of (record_at b (place b s)) → Handled b s (Ok m) (kept b (place b s))
  carries_out : {m : Message} {k : ℕ} → Roomy b → transacts m.content ≡ true → Serves b s m.number k → Handled b s (Ok m) (carried b s m k (bytes_of (reply_to b.contents m)))

module _ (b : Box) (s : ℕ) (room : Roomy b) where
  module _ (m : Message) (t : transacts m.content ≡ true) where
    by_age : place b s < 16 → (m.number ≡ newest_of (record_at b (place b s)) → ⊥) → (v : Bool) → ltb m.number (newest_of (record_at b (place b s))) ≡ v
        → Handled b s (Ok m) (by_standing b s m (cond v (Err OldNumber) (Ok (due (place b s)))))
    by_age h ne true e = turns OldNumber
    by_age h ne false e = let z = ltb-false _ _ e in carries_out room t (known h (omega arith))

    by_newest : place b s < 16 → (v : Bool) → eqb m.number (newest_of (record_at b (place b s))) ≡ v
        → Handled b s (Ok m) (by_standing b s m (cond v (Ok (repeated (place b s))) (cond (ltb m.number (newest_of (record_at b (place b s)))) (Err OldNumber) (Ok (due (place b s))))))
    by_newest h true e = again room t h (eqb-true _ _ e)
    by_newest h false e = by_age h (eqb-false _ _ e) (ltb m.number (newest_of (record_at b (place b s)))) refl

    by_vacancy : 16 ≤ place b s → (v : Bool) → ltb (first_by is_empty b.records) 16 ≡ v
        → Handled b s (Ok m) (by_standing b s m (cond v (Ok (due (first_by is_empty b.records))) (Err Unknown)))
    by_vacancy h true e = carries_out room t (fresh h (ltb-true _ _ e))
    by_vacancy h false e = turns Unknown

    by_record : (v : Bool) → ltb (place b s) 16 ≡ v
        → Handled b s (Ok m) (by_standing b s m (cond v (by_number (place b s) (newest_of (record_at b (place b s))) m.number) (cond (ltb (first_by is_empty b.records) 16) (Ok (due (first_by is_empty b.records))) (Err Unknown))))
    by_record true e = by_newest (ltb-true _ _ e) (eqb m.number (newest_of (record_at b (place b s)))) refl
    by_record false e = by_vacancy (ltb-false _ _ e) (ltb (first_by is_empty b.records) 16) refl

  content_view : (m : Message) (q : Content) → m.content ≡ q → Handled b s (Ok m) (by_content b s m q)
  content_view m (read_request indices) e = by_record m (ap transacts e) (ltb (place b s) 16) refl
  content_view m (write_request writes) e = by_record m (ap transacts e) (ltb (place b s) 16) refl
  content_view m discovery_request e = shows room e
  content_view m (read_answer readouts) e = turns Direction
  content_view m (write_answer codes) e = turns Direction
  content_view m (discovery_answer readouts) e = turns Direction

  packet_view : (r : Result Message Refusal) → Handled b s r (by_packet b s r)
  packet_view (Err reason) = turns reason
  packet_view (Ok m) = content_view m m.content refl

pub handled_view : (b : Box) (s : ℕ) (p : List ℕ) → Handled b s (packet_of p) (handled b s p)
handled_view b s p = by_room (short b) refl
  where
    by_room : (v : Bool) → short b ≡ v → Handled b s (packet_of p) (cond v (refused b ShortMemory) (by_packet b s (packet_of p)))
    by_room true e = turns ShortMemory
    by_room false e =
        let z = or_parts (ltb (length b.slab) 8192) (ltb (length b.reply) 512) e in
        packet_view b s (record { slab = ltb-false _ _ z.0; reply = ltb-false _ _ z.1 }) (packet_of p)
