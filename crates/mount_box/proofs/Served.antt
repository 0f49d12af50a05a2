-- What handling leaves, from what its calls did.
--     handled_long   where the memory is long enough, the message decides
--     in_room        in a row that is long enough the reply stands at the start
--     served_size    a reply to what was due has at most 485 bytes
--     due_served     a request that was due
--     found_out      Discovery
use Rattle.std.proofs.Common.{◌≡◌, ℕ, ◌+◌, ◌-◌, ◌*◌, ◌<◌, ◌≤◌, true, false, cond, List, ◌++◌, length, take, drop, set, Ok, Err, Option, Result, sym, refl, ap, ◌∙◌, subst, zero-add, arith}
use borrow.Rule.Slice.PartMut.{put_mid}
use Rattle.protocol.specs.Rows.{put_at}
use Rattle.protocol.specs.declared.refusal.Refusal.{Refusal}
use Rattle.protocol.specs.declared.refusal.Refusal.TheVariants.{ShortMemory}
use Rattle.field.specs.declared.words.Direction.TheVariants.{Request}
use Rattle.packet.specs.Messages.{Message, Content, read_request, write_request, discovery_request, read_answer, write_answer, discovery_answer, direction_of, packet_of}
use Rattle.writer.specs.Bytes.{bytes_of}
use Rattle.writer.specs.Written.{written, at_start}
use Rattle.std.proofs.lemmas.Bool.{le-ltb}
use Rattle.std.proofs.lemmas.List.{length-take, length-drop}
use Rattle.slab_rows.specs.Rows.{rowed}
use Rattle.slab_rows.specs.declared.place.Place.TheVariants.{Slab, Reply}
use Rattle.slab_rows.proofs.Written.{part_written}
use Rattle.store.specs.Contents.{Contents, Sound}
use Rattle.mount_box.specs.declared.senders.SenderRecord.{SenderRecord}
use Rattle.mount_box.specs.declared.standing.Standing.{Standing}
use Rattle.mount_box.specs.declared.standing.Standing.TheVariants.{Due}
use Rattle.mount_box.specs.Senders.{noted, standing}
use Rattle.mount_box.specs.Carrying.{left_by}
use Rattle.mount_box.specs.Answers.{Received, Answers, Carries, Orders}
use Rattle.mount_box.specs.Handling.{Box, refused, reply_to, discovered, carried, by_standing, by_content, by_packet, short, handled}
use Rattle.mount_box.specs.Views.{standing_of, record_of, outcome}
use Rattle.mount_box.proofs.Replies.{reply_size}

-- where the memory is long enough, the message decides
pub handled_long : (b : Box) (sender : ℕ) (packet : List ℕ) (m : Message) → short b ≡ false → packet_of packet ≡ Ok m → handled b sender packet ≡ by_content b sender m m.content
handled_long b sender packet m s p = ap (λ q. cond q (refused b ShortMemory) (by_packet b sender (packet_of packet))) s ∙ ap (by_packet b sender) p

-- a read or a write is a request
pub orders_ask : (content : Content) → Orders content → direction_of content ≡ Request
orders_ask (read_request is) o = refl
orders_ask (write_request ws) o = refl
orders_ask discovery_request o = absurd o
orders_ask (read_answer xs) o = absurd o
orders_ask (write_answer cs) o = absurd o
orders_ask (discovery_answer xs) o = absurd o

-- so it is answered
pub carries_answers : (c : Contents) (m : Message) (r : Result ℕ Refusal) (before after : List ℕ) → direction_of m.content ≡ Request → Carries c m r before after → Answers (reply_to c m) r before after
carries_answers c m r before after d h = rw d at h

-- in a row that is long enough it stands at the start
pub in_room : (m : Message) (r : Result ℕ Refusal) (before after : List ℕ) → 512 ≤ length before → Answers m r before after → (r ≡ Ok (length (bytes_of m))) × (after ≡ bytes_of m ++ drop (length (bytes_of m)) before)
in_room m r before after room a =
    let is : written true m before ≡ at_start (bytes_of m) before = rw (le-ltb (length before) 512 room) in
    (a.told ∙ ap (λ x. x.told) is, a.row ∙ ap (λ x. x.row) is)

-- a row of the slab, which is long enough
row_long : (k : ℕ) (slab : List ℕ) → k < 16 → 8192 ≤ length slab → 512 ≤ length (take (512 * k + 512 - 512 * k) (drop (512 * k) slab))
row_long k slab h room = simp (length-take, length-drop) (omega arith)

-- a request is not refused there
pub not_refused : (c : Contents) (m : Message) (k : ℕ) (reason : Refusal) (slab row : List ℕ) (s : Standing) → Orders m.content → record_of (standing_of s) < 16 → s ≡ Due k → 8192 ≤ length slab
    → Carries c m (Err reason) (take (512 * k + 512 - 512 * k) (drop (512 * k) slab)) row → ⊥
not_refused c m k reason slab row s o in' is room a =
    let h : k < 16 = subst (λ x. record_of (standing_of x) < 16) is in' in
    let part = take (512 * k + 512 - 512 * k) (drop (512 * k) slab) in
    let w = in_room (reply_to c m) (Err reason) part row (row_long k slab h room) (carries_answers c m (Err reason) part row (orders_ask m.content o) a) in
    let t = w.0 in cc

-- the row that the reply went to, put back
row_served : (c : Contents) (m : Message) (k n : ℕ) (slab row : List ℕ) → Sound c → Received m → Orders m.content → k < 16 → 8192 ≤ length slab → Carries c m (Ok n) (take (512 * k + 512 - 512 * k) (drop (512 * k) slab)) row
    → (n ≡ length (bytes_of (reply_to c m))) × (put_mid (512 * k) (512 * k + 512 - 512 * k) slab row ≡ rowed slab k (bytes_of (reply_to c m)))
row_served c m k n slab row ok p o h room a =
    let d = orders_ask m.content o in
    let part = take (512 * k + 512 - 512 * k) (drop (512 * k) slab) in
    let w = in_room (reply_to c m) (Ok n) part row (row_long k slab h room) (carries_answers c m (Ok n) part row d a) in
    let same : n ≡ length (bytes_of (reply_to c m)) = let t = w.0 in cc in
    let size : length (bytes_of (reply_to c m)) ≤ 485 = reply_size c ok p.0 m p.1 in
    (same, part_written (512 * k) (512 * k + 512 - 512 * k) slab (bytes_of (reply_to c m)) row (omega arith) (omega arith) w.1)

-- a reply to what was due has at most 485 bytes
pub served_size : (c : Contents) (m : Message) (k n : ℕ) (slab row : List ℕ) (s : Standing) → Sound c → Received m → Orders m.content → record_of (standing_of s) < 16 → s ≡ Due k → 8192 ≤ length slab
    → Carries c m (Ok n) (take (512 * k + 512 - 512 * k) (drop (512 * k) slab)) row → n ≤ 485
served_size c m k n slab row s ok p o in' is room a =
    let h : k < 16 = subst (λ x. record_of (standing_of x) < 16) is in' in
    let w = row_served c m k n slab row ok p o h room a in
    let same : n ≡ length (bytes_of (reply_to c m)) = w.0 in
    let size : length (bytes_of (reply_to c m)) ≤ 485 = reply_size c ok p.0 m p.1 in
    omega arith

-- what is due is carried out
pub due_served : (b : Box) (sender k n : ℕ) (m : Message) (s : Standing) (r : Option SenderRecord) (row : List ℕ) (left : Contents) → Sound b.contents → Received m → Orders m.content → 8192 ≤ length b.slab
    → record_of (standing_of s) < 16 → Ok (standing_of s) ≡ standing b.records sender m.number → s ≡ Due k
    → Carries b.contents m (Ok n) (take (512 * k + 512 - 512 * k) (drop (512 * k) b.slab)) row → r ≡ noted sender m.number n → left ≡ left_by b.contents m.content
    → outcome (Ok (Slab (512 * k) n)) (record { records = set b.records k r; slab = put_mid (512 * k) (512 * k + 512 - 512 * k) b.slab row; reply = b.reply; contents = left }) ≡ by_standing b sender m (standing b.records sender m.number)
due_served b sender k n m s r row left ok p o room in' st is a re le =
    let bytes = bytes_of (reply_to b.contents m) in
    let h : k < 16 = subst (λ x. record_of (standing_of x) < 16) is in' in
    let w = row_served b.contents m k n b.slab row ok p o h room a in
    let done : outcome (Ok (Slab (512 * k) n)) (record { records = set b.records k r; slab = put_mid (512 * k) (512 * k + 512 - 512 * k) b.slab row; reply = b.reply; contents = left }) ≡ carried b sender m k (bytes_of (reply_to b.contents m)) =
    λ t. outcome (Ok (Slab (512 * k) (w.0 t))) (record { records = set b.records k ((re ∙ ap (noted sender m.number) w.0) t); slab = w.1 t; reply = b.reply; contents = le t }) in
    done ∙ ap (by_standing b sender m) (ap (λ x. Ok (standing_of x)) (sym is) ∙ st)

-- Discovery is answered at the start of the reply buffer
pub found_out : (b : Box) (sender : ℕ) (m : Message) (n : ℕ) (reply : List ℕ) (left : Contents) → 512 ≤ length b.reply → m.content ≡ discovery_request → Carries b.contents m (Ok n) b.reply reply → left ≡ left_by b.contents m.content
    → outcome (Ok (Reply n)) (record { records = b.records; slab = b.slab; reply = reply; contents = left }) ≡ by_content b sender m m.content
found_out b sender m n reply left room d a e =
    let w = in_room (reply_to b.contents m) (Ok n) b.reply reply room (carries_answers b.contents m (Ok n) b.reply reply (ap direction_of d) a) in
    let bytes = bytes_of (reply_to b.contents m) in
    let same : n ≡ length (bytes_of (reply_to b.contents m)) = let t = w.0 in cc in
    let front : reply ≡ put_at b.reply 0 (bytes_of (reply_to b.contents m)) = w.1 ∙ sym (ap (λ k. bytes ++ drop k b.reply) (zero-add (length bytes))) in
    let done : outcome (Ok (Reply n)) (record { records = b.records; slab = b.slab; reply = reply; contents = left }) ≡ discovered b (bytes_of (reply_to b.contents m)) =
    λ t. outcome (Ok (Reply (same t))) (record { records = b.records; slab = b.slab; reply = front t; contents = (e ∙ ap (left_by b.contents) d) t }) in
    done ∙ sym (ap (by_content b sender m) d)
