-- Handling keeps its promises.
--     repeats, groups, others, backs   of a box over a sound store, with its sixteen records
use Rattle.std.proofs.Common.{◌≡◌, ℕ, zero, suc, ◌+◌, ◌*◌, ◌<◌, ◌≤◌, false, ◌||◌, ltb, List, [], ◌∷◌, map, length, get_or, take, Ok, Err, Result, sym, refl, ap, ◌∙◌, subst, inl, arith}
use Rattle.std.proofs.lemmas.List.{get_or-set_same, get_or-set_other, get_or-map, length-map}
use Rattle.std.proofs.lemmas.Bool.{or_from, or_parts, ltb-false, le-ltb, eq-eqb}
use Rattle.protocol.specs.declared.code.Code.{Code}
use Rattle.protocol.specs.declared.refusal.Refusal.{Refusal}
use Rattle.field.specs.declared.words.Direction.TheVariants.{Request}
use Rattle.packet.specs.Messages.{Message, Content, read_request, write_request, discovery_request, read_answer, write_answer, discovery_answer, direction_of, packet_of}
use Rattle.writer.specs.Bytes.{bytes_of}
use Rattle.protocol.specs.Rows.{put_at}
use Rattle.slab_rows.specs.Places.{part_of}
use Rattle.slab_rows.specs.Rows.{rowed}
use Rattle.slab_rows.specs.declared.place.Place.{Place}
use Rattle.slab_rows.specs.declared.place.Place.TheVariants.{Slab, Reply}
use Rattle.store.specs.Contents.{Contents, Sound}
use Rattle.store.specs.Owner.{write_text_of}
use Rattle.mount_box.specs.Senders.{blank, noted, is_of, length_of, repeated, due, standing}
use Rattle.mount_box.specs.Carrying.{coded, shown, write_codes, after_writes, replied, left_by}
use Rattle.mount_box.specs.Answers.{Orders}
use Rattle.mount_box.specs.Handling.{Box, Handling, reply_to, discovered, kept, carried, by_standing, by_content, short, handled}
use Rattle.mount_box.specs.Promises.{Repeats, Groupwise, Groups, Others, ReadsAt, Back}
use Rattle.mount_box.specs.Views.{outcome}
use Rattle.mount_box.proofs.Answering.{length_codes}
use Rattle.mount_box.proofs.Finding.{due_for, known_by, noted_again}
use Rattle.mount_box.proofs.Placed.{put_outside}
use Rattle.slab_rows.proofs.Written.{piece_put}
use Rattle.protocol.proofs.Writes.{length_put}
use Rattle.mount_box.proofs.Replies.{reply_back, reply_size}
use Rattle.mount_box.proofs.Served.{handled_long, orders_ask}
use Rattle.mount_box.proofs.Ways.{Handles, handles, stopped, again, done, told}

-- a packet says one thing
same_message : (packet : List ℕ) (m n : Message) → packet_of packet ≡ Ok m → packet_of packet ≡ Ok n → m ≡ n
same_message packet m n p q = cc

-- Discovery is no read and no write
not_both : (packet : List ℕ) (m n : Message) → packet_of packet ≡ Ok m → packet_of packet ≡ Ok n → Orders m.content → n.content ≡ discovery_request → ⊥
not_both packet m n p q o d = subst Orders (ap (λ x. x.content) (same_message packet m n p q) ∙ d) o

-- a request is due or a repeat
not_due : (records : List _) (sender : ℕ) (m n : Message) (j k : ℕ) → m ≡ n → standing records sender m.number ≡ Ok (due j) → standing records sender n.number ≡ Ok (repeated k) → ⊥
not_due records sender m n j k s p q = let e : standing records sender m.number ≡ standing records sender n.number = ap (λ x. standing records sender x.number) s in cc

-- by its standing goes a read or a write
orders_by : (b : Box) (sender : ℕ) (m : Message) (content : Content) → Orders content → by_content b sender m content ≡ by_standing b sender m (standing b.records sender m.number)
orders_by b sender m (read_request is) o = refl
orders_by b sender m (write_request ws) o = refl
orders_by b sender m discovery_request o = absurd o
orders_by b sender m (read_answer xs) o = absurd o
orders_by b sender m (write_answer cs) o = absurd o
orders_by b sender m (discovery_answer xs) o = absurd o

pub repeat_kept : (b : Box) (sender k : ℕ) (packet : List ℕ) (m : Message) → short b ≡ false → packet_of packet ≡ Ok m → Orders m.content → standing b.records sender m.number ≡ Ok (repeated k) → handled b sender packet ≡ kept b k
repeat_kept b sender k packet m s p o e = handled_long b sender packet m s p ∙ orders_by b sender m m.content o ∙ ap (by_standing b sender m) e

-- the i-th code is that of the i-th write on what the writes before it left
codes_at : (c : Contents) (ws : List (ℕ × List ℕ)) (i : ℕ) (w : ℕ × List ℕ) (x : Code) → i < length ws → get_or ws i w ≡ w → get_or (write_codes c ws) i x ≡ coded (write_text_of (after_writes c (take i ws)) w.0 w.1).code
codes_at c [] i w x h e = absurd (omega arith)
codes_at c (v ∷ ws) zero w x h e = ap (λ y. coded (write_text_of c y.0 y.1).code) e
codes_at c (v ∷ ws) (suc i) w x h e = codes_at (write_text_of c v.0 v.1).after ws i w x (omega arith) e

groupwise : (c : Contents) (content : Content) → Groupwise c content (replied c content) (left_by c content)
groupwise c (read_request is) =
    record { readouts = map (shown c) is; answer_is = refl; count = length-map is (shown c); each = λ i x h. get_or-map (shown c) is i 0 x h; stays = refl }
groupwise c (write_request ws) = record { codes = write_codes c ws; answer_is = refl; count = length_codes c ws; each = codes_at c ws; leaves = refl }
groupwise c discovery_request = tt
groupwise c (read_answer xs) = tt
groupwise c (write_answer cs) = tt
groupwise c (discovery_answer xs) = tt

-- the bytes of the reply
abbrev reply_bytes : Box → Message → List ℕ
reply_bytes b m = bytes_of (reply_to b.contents m)

-- what they are in a box over a sound store whose memory is long enough
record Fits (b : Box) (m : Message) : Type 0 where
  few : length (reply_bytes b m) ≤ 485
  back : packet_of (reply_bytes b m) ≡ Ok (reply_to b.contents m)
  in_row : (k : ℕ) → k < 16 → 512 * k + length (reply_bytes b m) ≤ length b.slab
  in_reply : 0 + length (reply_bytes b m) ≤ length b.reply

fits : (b : Box) (packet : List ℕ) (m : Message) → Sound b.contents → short b ≡ false → packet_of packet ≡ Ok m → direction_of m.content ≡ Request → Fits b m
fits b packet m sound s p ask =
    let few : length (reply_bytes b m) ≤ 485 = reply_size b.contents sound packet m p in
    let q = or_parts (ltb (length b.slab) 8192) (ltb (length b.reply) 512) s in
    let slab : 8192 ≤ length b.slab = ltb-false (length b.slab) 8192 q.0 in
    let reply : 512 ≤ length b.reply = ltb-false (length b.reply) 512 q.1 in
    record { few = few; back = reply_back b.contents sound packet m p; in_row = λ k h. omega arith; in_reply = omega arith }

module _ (b : Box) (sender : ℕ) (packet : List ℕ) (sound : Sound b.contents) (sixteen : length b.records ≡ 16) where
  pub repeats : (h : Handling) → Handles b sender packet h → Repeats sender packet h
  repeats h (stopped reason) m n place q p o a r u e = absurd cc
  repeats h (told w s t d) m n place q p o a r u e = absurd (not_both packet m w p t o d)
  repeats h (again w k s t v st) m n place q p o a r u e =
      repeat_kept b sender k q n s r u (ap (standing b.records sender) (e ∙ ap (λ x. x.number) (same_message packet m w p t)) ∙ st)
  repeats h (done w k s t v st) m n place q p o a r u e =
      let f = fits b packet w sound s t (orders_ask w.content v) in
      let d = due_for b.records sender w.number sixteen k st in
      let len = length (reply_bytes b w) in
      let after = (carried b sender w k (reply_bytes b w)).after in
      let number : n.number ≡ w.number = e ∙ ap (λ x. x.number) (same_message packet m w p t) in
      let in' : k < 16 = d.inside in
      let long : short after ≡ false = ap (λ l. ltb l 8192 || ltb (length b.reply) 512) (length_put b.slab (512 * k) (reply_bytes b w) (f.in_row k in')) ∙ s in
      let at : get_or after.records k blank ≡ noted sender w.number len = get_or-set_same b.records k (noted sender w.number len) blank (omega arith) in
      repeat_kept after sender k q n long r u (ap (standing after.records sender) number ∙ noted_again b.records sender w.number sixteen k len d)
      ∙ (λ i. record { answer = Ok (Slab (512 * k) (length_of (at i))); after = after })

  pub others : (h : Handling) → Handles b sender packet h → Others b sender h
  others h (stopped reason) = refl
  others h (told w s t d) =
      let f = fits b packet w sound s t (ap direction_of d) in
      record { records = refl; slab = refl; contents = refl; reply = put_outside b.reply (reply_bytes b w) 0 f.in_reply }
  others h (again w k s t v st) =
      let known = known_by b.records sender w.number sixteen k st in
      record {
        row = k;
        inside = known.inside;
        begins = refl;
        was = inl known.own;
        own = known.own;
        records = λ j n. refl;
        slab = record { long = refl; below = λ i l. refl; behind = λ i l. refl };
        reply = refl;
      }
  others h (done w k s t v st) =
      let f = fits b packet w sound s t (orders_ask w.content v) in
      let d = due_for b.records sender w.number sixteen k st in
      let in' : k < 16 = d.inside in
      let len = length (reply_bytes b w) in
      record {
        row = k;
        inside = d.inside;
        begins = refl;
        was = d.was;
        own = ap (is_of sender) (get_or-set_same b.records k (noted sender w.number len) blank (omega arith)) ∙ eq-eqb sender sender refl;
        records = λ j n. get_or-set_other b.records k j (noted sender w.number len) blank n;
        slab = put_outside b.slab (reply_bytes b w) (512 * k) (f.in_row k in');
        reply = refl;
      }

  reads_slab : (w : Message) (k : ℕ) (place : Place) → short b ≡ false → packet_of packet ≡ Ok w → Orders w.content → standing b.records sender w.number ≡ Ok (due k) → (carried b sender w k (reply_bytes b w)).answer ≡ Ok place → ReadsAt place (carried b sender w k (reply_bytes b w)).after (reply_to b.contents w)
  reads_slab w k place s t v st a =
      let f = fits b packet w sound s t (orders_ask w.content v) in
      let d = due_for b.records sender w.number sixteen k st in
      let same : Slab (512 * k) (length (reply_bytes b w)) ≡ place = cc in
      record {
        bytes = reply_bytes b w;
        part = ap (λ x. part_of x (rowed b.slab k (reply_bytes b w)) b.reply) (sym same) ∙ piece_put b.slab (reply_bytes b w) (512 * k) (f.in_row k d.inside);
        few = f.few;
        read = f.back;
      }

  reads_reply : (w : Message) (place : Place) → short b ≡ false → packet_of packet ≡ Ok w → w.content ≡ discovery_request → (discovered b (reply_bytes b w)).answer ≡ Ok place → ReadsAt place (discovered b (reply_bytes b w)).after (reply_to b.contents w)
  reads_reply w place s t d a =
      let f = fits b packet w sound s t (ap direction_of d) in
      let same : Reply (length (reply_bytes b w)) ≡ place = cc in
      record {
        bytes = reply_bytes b w;
        part = ap (λ x. part_of x b.slab (put_at b.reply 0 (reply_bytes b w))) (sym same) ∙ piece_put b.reply (reply_bytes b w) 0 f.in_reply;
        few = f.few;
        read = f.back;
      }

  back_carried : (h : Handling) → Handles b sender packet h → (m : Message) (k : ℕ) (place : Place) → packet_of packet ≡ Ok m → Orders m.content → standing b.records sender m.number ≡ Ok (due k) → h.answer ≡ Ok place → ReadsAt place h.after (reply_to b.contents m)
  back_carried h (stopped reason) m k place p o e a = absurd cc
  back_carried h (told w s t d) m k place p o e a = absurd (not_both packet m w p t o d)
  back_carried h (again w j s t v st) m k place p o e a = absurd (not_due b.records sender m w k j (same_message packet m w p t) e st)
  back_carried h (done w j s t v st) m k place p o e a =
      subst (λ x. ReadsAt place (carried b sender w j (reply_bytes b w)).after (reply_to b.contents x)) (same_message packet w m t p) (reads_slab w j place s t v st a)

  back_discovered : (h : Handling) → Handles b sender packet h → (m : Message) (place : Place) → packet_of packet ≡ Ok m → m.content ≡ discovery_request → h.answer ≡ Ok place → ReadsAt place h.after (reply_to b.contents m)
  back_discovered h (stopped reason) m place p c a = absurd cc
  back_discovered h (told w s t d) m place p c a =
      subst (λ x. ReadsAt place (discovered b (reply_bytes b w)).after (reply_to b.contents x)) (same_message packet w m t p) (reads_reply w place s t d a)
  back_discovered h (again w j s t v st) m place p c a = absurd (not_both packet w m t p v c)
  back_discovered h (done w j s t v st) m place p c a = absurd (not_both packet w m t p v c)

  pub backs : (h : Handling) → Handles b sender packet h → Back b sender packet h
  backs h w = record { carried = back_carried h w; discovered = back_discovered h w }

  pub groups : (h : Handling) → Handles b sender packet h → Groups b sender packet h
  groups h (stopped reason) m answer k place bytes p o e a part q = absurd cc
  groups h (told w s t d) m answer k place bytes p o e a part q = absurd (not_both packet m w p t o d)
  groups h (again w j s t v st) m answer k place bytes p o e a part q = absurd (not_due b.records sender m w k j (same_message packet m w p t) e st)
  groups h (done w j s t v st) m answer k place bytes p o e a part q =
      let r = reads_slab w j place s t v st a in
      let at = r.part in
      let same : bytes ≡ r.bytes = cc in
      let read = r.read in
      let is : answer ≡ reply_to b.contents w = cc in
      subst (λ x. Groupwise b.contents x.content answer.content (left_by b.contents w.content)) (same_message packet w m t p)
      (subst (λ x. Groupwise b.contents w.content x.content (left_by b.contents w.content)) (sym is) (groupwise b.contents w.content))

-- all of them, with what they are promised of
pub record Promises (b : Box) (sender : ℕ) (packet : List ℕ) (h : Handling) : Type 0 where
  pub handled : h ≡ handled b sender packet
  pub repeat : Repeats sender packet h
  pub groups : Groups b sender packet h
  pub others : Others b sender h
  pub back : Back b sender packet h

-- a read or a write was served
pub served : (b : Box) (sender : ℕ) (m : Message) {h : Handling} → Orders m.content → h ≡ by_standing b sender m (standing b.records sender m.number) → h ≡ by_content b sender m m.content
served b sender m o e = e ∙ sym (orders_by b sender m m.content o)

-- a message was responded to
pub responded : (b : Box) (sender : ℕ) (packet : List ℕ) (m : Message) (h : Handling) → Sound b.contents → 8192 ≤ length b.slab → 512 ≤ length b.reply → Ok m ≡ packet_of packet → length b.records ≡ 16 → h ≡ by_content b sender m m.content → Promises b sender packet h
responded b sender packet m h sound rows room p sixteen e =
    let q = sym p in
    let s : short b ≡ false = or_from _ _ (le-ltb (length b.slab) 8192 rows) (le-ltb (length b.reply) 512 room) in
    let w = handles b sender packet in
    let x = handled b sender packet in
    subst (Promises b sender packet) (handled_long b sender packet m s q ∙ sym e) (record {
      handled = refl;
      repeat = repeats b sender packet sound sixteen x w;
      groups = groups b sender packet sound sixteen x w;
      others = others b sender packet sound sixteen x w;
      back = backs b sender packet sound sixteen x w;
    })

-- a packet was refused
pub refused_so : (b : Box) (sender : ℕ) (packet : List ℕ) (r : Result Place Refusal) (reason : Refusal) → r ≡ Err reason → outcome r b ≡ handled b sender packet → Promises b sender packet (outcome r b)
refused_so b sender packet r reason g e =
    subst (λ x. outcome x b ≡ handled b sender packet → Promises b sender packet (outcome x b)) (sym g)
    (λ q. record {
      handled = q;
      repeat = λ m n place again p o a r u i. absurd cc;
      groups = λ m answer k place bytes p o i a part r. absurd cc;
      others = refl;
      back = record { carried = λ m k place p o i a. absurd cc; discovered = λ m place p d a. absurd cc };
    })
    e
