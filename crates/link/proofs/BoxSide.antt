-- One box and its own calls: what it keeps of a sender is its newest carrying out for it, and those are in order.
--     Steady b            what holds of a box between its calls
--     Handles b s r t b'  a packet of s that reads as r was answered t, and left the box b'
--     Keeps b s l         what the box keeps of the sender s, of whose requests it carried out l
--     box_steady, box_keeps   so it is after any calls
--     Outcome, outcome    what handling a packet did to what was carried out for its sender
use Rattle.std.proofs.Common.{◌≡◌, ℕ, zero, suc, ◌<◌, ◌≤◌, Bool, true, false, cond, eqb, ◌⊎◌, List, [], ◌∷◌, length, get_or, set, replicate, Some, None, Ok, Err, Option, Result, sym, refl, ap, ◌∙◌, subst, inl, inr, arith}
use Rattle.std.proofs.lemmas.List.{length-set, get_or-set_same, get_or-set_other}
use Rattle.std.proofs.lemmas.Bool.{and_left, and_right, and_from, cases_eq, eq-eqb, ne_eqb, eqb-true, eqb-false, true≢false}
use Rattle.protocol.specs.declared.refusal.Refusal.{Refusal}
use Rattle.packet.specs.Messages.{Message, discovery_request, packet_of}
use Rattle.writer.specs.Bytes.{bytes_of}
use Rattle.slab_rows.specs.Searches.{first_by}
use Rattle.slab_rows.specs.Rows.{rowed, in_row}
use Rattle.store.specs.Contents.{Contents, Sound}
use Rattle.store.specs.Owner.{owner_write_of}
use Rattle.store.proofs.Texted.{owner_texted, texted_sound}
use Rattle.mount_box.specs.declared.senders.SenderRecord.{SenderRecord}
use Rattle.mount_box.specs.Senders.{blank, noted, is_of, is_empty, newest_of, length_of}
use Rattle.mount_box.specs.Handling.{Box, Handling, reply_to, discovered, carried, handled}
use Rattle.link.specs.Calls.{BoxCall, handle, owner_write, Mem, replied_with}
use Rattle.link.specs.Carryings.{Carrying, transacts, repeats, carries, carryings, Below, InOrder}
use Rattle.link.specs.Runs.{BoxAnswers, box_after, new_box}
use Rattle.link.proofs.Basics.{eqb_self, same_self, first_passes}
use Rattle.link.proofs.Rows.{row_here, row_other, row_length, part_row, part_reply}
use Rattle.link.proofs.Handlings.{place, record_at, Serves, known, fresh, Handled, handled_view}
use Rattle.link.proofs.Handlings as H
use Rattle.link.proofs.GoodSide.{handled_sound}
use Rattle.mount_box.proofs.Replies.{reply_back, reply_size}

-- the first that passes, when one is put in another's place
module _ {X : Type 0} (p : X → Bool) where
  first_set_other : (xs : List X) (k : ℕ) (y d : X) → p (get_or xs k d) ≡ false → p y ≡ false → first_by p (set xs k y) ≡ first_by p xs
  first_set_other [] k y d e f = refl
  first_set_other (x ∷ xs) zero y d e f = rw (e, f)
  first_set_other (x ∷ xs) (suc k) y d e f = ap (λ n. cond (p x) 0 (suc n)) (first_set_other xs k y d e f)

  first_set_here : (xs : List X) (k : ℕ) (y : X) → k ≤ first_by p xs → k < length xs → p y ≡ true → first_by p (set xs k y) ≡ k
  first_set_here [] k y h l e = absurd (omega arith)
  first_set_here (x ∷ xs) zero y h l e = rw e
  first_set_here (x ∷ xs) (suc k) y h l e = go (first_set_here xs k y) (p x) h
    where
      go : (k ≤ first_by p xs → k < length xs → p y ≡ true → first_by p (set xs k y) ≡ k) → (v : Bool) → suc k ≤ cond v 0 (suc (first_by p xs)) → cond v 0 (suc (first_by p (set xs k y))) ≡ suc k
      go ih true h = absurd (omega arith)
      go ih false h = ap suc (ih (omega arith) (omega arith) e)

pub record Steady (b : Box) : Type 0 where
  pub sixteen : length b.records ≡ 16
  pub sound : Sound b.contents
  pub short : (k : ℕ) → length_of (record_at b k) ≤ 512

pub data Handles (b : Box) (s : ℕ) : Result Message Refusal → Result (List ℕ) Refusal → Box → Type 0 where
  turns : {r : Result Message Refusal} (reason : Refusal) → Handles b s r (Err reason) b
  shows : {m : Message} → m.content ≡ discovery_request → (bytes : List ℕ) → bytes ≡ bytes_of (reply_to b.contents m) → packet_of bytes ≡ Ok (reply_to b.contents m)
      → Handles b s (Ok m) (Ok bytes) (discovered b bytes).after
  again : {m : Message} → transacts m.content ≡ true → place b s < 16 → m.number ≡ newest_of (record_at b (place b s))
      → Handles b s (Ok m) (Ok (in_row b.slab (place b s) (length_of (record_at b (place b s))))) b
  carries_out : {m : Message} {k : ℕ} → transacts m.content ≡ true → Serves b s m.number k → 8192 ≤ length b.slab
      → (bytes : List ℕ) → bytes ≡ bytes_of (reply_to b.contents m) → length bytes ≤ 485 → packet_of bytes ≡ Ok (reply_to b.contents m)
      → Handles b s (Ok m) (Ok bytes) (carried b s m k bytes).after

pub serves_low : {b : Box} {s n k : ℕ} → Serves b s n k → k < 16
serves_low (known h n) = h
serves_low (fresh h n) = n

module _ (b : Box) (ok : Steady b) (s : ℕ) (p : List ℕ) where
  -- what is told of a handling
  handles : {r : Result Message Refusal} {x : Handling} → Handled b s r x → packet_of p ≡ r → Handles b s r (replied_with x.answer x.after.slab x.after.reply) x.after
  handles (H.turns reason) e = turns reason
  handles (H.shows {m = m} room d) e =
      let bytes = bytes_of (reply_to b.contents m) in
      let l = reply_size b.contents ok.sound p m e in
      let h = room.reply in
      rw (part_reply b.slab b.reply bytes (omega arith)) (shows d bytes refl (reply_back b.contents ok.sound p m e))
  handles (H.again {m = m} room t h n) e =
      rw (part_row b.slab b.reply (place b s) (length_of (record_at b (place b s))) h (ok.short (place b s)) room.slab) (again t h n)
  handles (H.carries_out {m = m} {k = k} room t h) e =
      let bytes = bytes_of (reply_to b.contents m) in
      let l = reply_size b.contents ok.sound p m e in
      let low = serves_low h in
      let full = row_length b.slab k bytes low (omega arith) room.slab in
      let f = room.slab in
      rw (part_row (rowed b.slab k bytes) b.reply k (length bytes) low (omega arith) (omega arith), row_here b.slab k bytes low (omega arith) room.slab)
      (carries_out t h room.slab bytes refl l (reply_back b.contents ok.sound p m e))

  pub handling : Handles b s (packet_of p) (replied_with (handled b s p).answer (handled b s p).after.slab (handled b s p).after.reply) (handled b s p).after
  handling = handles (handled_view b s p) refl

-- the box stays steady
module _ (b : Box) (ok : Steady b) where
  noted_short : (k n : ℕ) (y : Option SenderRecord) → k < 16 → length_of y ≤ 512 → length_of (get_or (set b.records k y) n blank) ≤ 512
  noted_short k n y low h = go (cases_eq n k)
    where
      go : (n ≡ k) ⊎ (n ≡ k → ⊥) → length_of (get_or (set b.records k y) n blank) ≤ 512
      go (inl e) = let l = ok.sixteen in rw (e, get_or-set_same b.records k y blank (omega arith)) h
      go (inr d) = rw (get_or-set_other b.records k n y blank d) (ok.short n)

  steady_next : (s : ℕ) {r : Result Message Refusal} {t : Result (List ℕ) Refusal} {b' : Box} → Sound b'.contents → Handles b s r t b' → Steady b'
  steady_next s g (turns reason) = ok
  steady_next s g (shows d bytes e back) = record { sixteen = ok.sixteen; sound = ok.sound; short = ok.short }
  steady_next s g (again t h n) = ok
  steady_next s g (carries_out {m = m} {k = k} t h full bytes e small back) =
      record {
        sixteen = length-set b.records k (noted s m.number (length bytes)) ∙ ok.sixteen;
        sound = g;
        short = λ n. noted_short k n (noted s m.number (length bytes)) (serves_low h) (omega arith);
      }

blank_short : (n k : ℕ) → length_of (get_or (replicate n blank) k blank) ≤ 512
blank_short zero k = omega arith
blank_short (suc n) zero = omega arith
blank_short (suc n) (suc k) = blank_short n k

pub new_steady : (c : Contents) (slab reply : List ℕ) → Sound c → Steady (new_box c slab reply)
new_steady c slab reply ok = record { sixteen = refl; sound = ok; short = blank_short 16 }

pub box_steady : (b : Box) → Steady b → (cs : List BoxCall) → Steady (box_after b cs)
box_steady b ok [] = ok
box_steady b ok (handle s p r stays ∷ cs) =
    let x = box_after b cs in
    let i = box_steady b ok cs in
    steady_next x i s (handled_sound x s i.sound (handled_view x s p)) (handling x i s p)
box_steady b ok (owner_write k t text code ∷ cs) =
    let i = box_steady b ok cs in
    let c = (box_after b cs).contents in
    record { sixteen = i.sixteen; sound = texted_sound c k text (owner_write_of c k t text) i.sound (owner_texted c k t text); short = i.short }

-- what is carried out is what record k tells of
abbrev pub Tells : Box → ℕ → List Carrying → Type 0
Tells b k [] = ⊥
Tells b k (x ∷ xs) = (x.number ≡ newest_of (record_at b k)) × (x.reply ≡ in_row b.slab k (length_of (record_at b k)))

pub record Keeps (b : Box) (s : ℕ) (l : List Carrying) : Type 0 where
  pub newest : place b s < 16 → Tells b (place b s) l
  pub none : 16 ≤ place b s → l ≡ []
  pub order : InOrder l

below_more : (l : List Carrying) (m n : ℕ) → m < n → Below m l → Below n l
below_more [] m n h t = tt
below_more (x ∷ l) m n h t = (omega arith, below_more l m n h t.1)

-- a number that is due is above all that were carried out
below_newest : (b : Box) (k n : ℕ) (l : List Carrying) → Tells b k l → InOrder l → newest_of (record_at b k) < n → Below n l
below_newest b k n [] t o h = tt
below_newest b k n (x ∷ l) t o h = let e = t.0 in let z : x.number < n = omega arith in (z, below_more l x.number n z o.0)

pub serves_above : {b : Box} {s n k : ℕ} (l : List Carrying) → Keeps b s l → Serves b s n k → Below n l
serves_above {b} {s} {n} l t (known h e) = below_newest b (place b s) n l (t.newest h) t.order e
serves_above {b} {s} {n} l t (fresh h e) = rw (t.none h) tt

-- and so no repeat
pub repeats_not : (n : ℕ) (r : List ℕ) (stays : Bool) (l : List Carrying) → Below n l → repeats n r stays l ≡ false
repeats_not n r stays [] h = refl
repeats_not n r stays (x ∷ l) h = let z = h.0 in and_right stays _ (and_left (eqb n x.number) _ (ne_eqb n x.number (λ e. omega arith)))

-- the number again that the record tells of is a repeat
pub repeats_it : (b : Box) (k n : ℕ) (l : List Carrying) → Tells b k l → n ≡ newest_of (record_at b k) → repeats n (in_row b.slab k (length_of (record_at b k))) true l ≡ true
repeats_it b k n [] t e = absurd t
repeats_it b k n (x ∷ l) t e = and_from (eqb n x.number) _ (eq-eqb n x.number (e ∙ sym t.0)) (rw t.1 (same_self (in_row b.slab k (length_of (record_at b k)))))

-- a record is that of one sender alone
of_one : (r : Option SenderRecord) (f s : ℕ) → is_of f r ≡ true → (f ≡ s → ⊥) → is_of s r ≡ false
of_one None f s t d = refl
of_one (Some r) f s t d = let a = eqb-true r.address f t in ne_eqb r.address s (λ q. d (sym a ∙ q))

-- an empty one that of none
of_none : (r : Option SenderRecord) (s : ℕ) → is_empty r ≡ true → is_of s r ≡ false
of_none None s t = refl
of_none (Some r) s t = absurd (true≢false (sym t))

-- record k is not that of another sender
served_other : (b : Box) (ok : Steady b) (f s n : ℕ) {k : ℕ} → Serves b f n k → (f ≡ s → ⊥) → is_of s (record_at b k) ≡ false
served_other b ok f s n (known h e) d =
    let l = ok.sixteen in
    of_one (record_at b (place b f)) f s (first_passes (is_of f) b.records blank (omega arith)) d
served_other b ok f s n (fresh h e) d =
    let l = ok.sixteen in
    of_none (record_at b (first_by is_empty b.records)) s (first_passes is_empty b.records blank (omega arith))

-- what is kept of one sender, when a packet of a sender was handled
module _ (b : Box) (ok : Steady b) (s : ℕ) (l : List Carrying) (t : Keeps b s l) where
  tells_other : (b' : Box) (j : ℕ) → record_at b' j ≡ record_at b j → ((n : ℕ) → n ≤ 512 → in_row b'.slab j n ≡ in_row b.slab j n) → Tells b j l → Tells b' j l
  tells_other b' j e rows h = go l h
    where
      go : (xs : List Carrying) → Tells b j xs → Tells b' j xs
      go [] h = h
      go (x ∷ xs) h = (h.0 ∙ sym (ap newest_of e), h.1 ∙ sym (rows (length_of (record_at b j)) (ok.short j)) ∙ ap (λ (y : Option SenderRecord). in_row b'.slab j (length_of y)) (sym e))

  keeps_carried : (f : ℕ) (m : Message) (k : ℕ) (bytes : List ℕ) → (f ≡ s → ⊥) → Serves b f m.number k → 8192 ≤ length b.slab → length bytes ≤ 485 → Keeps (carried b f m k bytes).after s l
  keeps_carried f m k bytes d h full small =
      let y = noted f m.number (length bytes) in
      let b' = (carried b f m k bytes).after in
      let low = serves_low h in
      let never = served_other b ok f s m.number h d in
      let same : place b' s ≡ place b s = first_set_other (is_of s) b.records k y blank never (ne_eqb f s d) in
      record {
        newest = λ z.
            let w : place b s < 16 = omega arith in
            let q = ok.sixteen in
            let apart : place b s ≡ k → ⊥ = λ e. true≢false (sym (first_passes (is_of s) b.records blank (omega arith)) ∙ ap (λ (i : ℕ). is_of s (record_at b i)) e ∙ never) in
            subst (λ (i : ℕ). Tells b' i l) (sym same)
            (tells_other b' (place b s) (get_or-set_other b.records k (place b s) y blank apart) (λ n i. row_other b.slab k bytes low (omega arith) full (place b s) n apart i) (t.newest w));
        none = λ z. t.none (omega arith);
        order = t.order;
      }

  keeps_other : (f : ℕ) {r : Result Message Refusal} {a : Result (List ℕ) Refusal} {b' : Box} → (f ≡ s → ⊥) → Handles b f r a b' → Keeps b' s l
  keeps_other f d (turns reason) = t
  keeps_other f d (shows z bytes e back) = record { newest = t.newest; none = t.none; order = t.order }
  keeps_other f d (again z h n) = t
  keeps_other f d (carries_out {m = m} {k = k} z h full bytes e small back) = keeps_carried f m k bytes d h full small

  keeps_new : (m : Message) (k : ℕ) (bytes : List ℕ) → Serves b s m.number k → 8192 ≤ length b.slab → length bytes ≤ 485
      → Keeps (carried b s m k bytes).after s (record { number = m.number; request = m.content; reply = bytes } ∷ l)
  keeps_new m k bytes h full small =
      let y = noted s m.number (length bytes) in
      let b' = (carried b s m k bytes).after in
      let low = serves_low h in
      let q = ok.sixteen in
      let here : place b' s ≡ k = first_set_here (is_of s) b.records k y (serves_first h) (omega arith) (eqb_self s) in
      let noted_here : record_at b' k ≡ y = get_or-set_same b.records k y blank (omega arith) in
      record {
        newest = λ z.
            subst (λ (i : ℕ). Tells b' i (record { number = m.number; request = m.content; reply = bytes } ∷ l)) (sym here)
            (ap newest_of (sym noted_here), sym (row_here b.slab k bytes low (omega arith) full) ∙ ap (λ (x : Option SenderRecord). in_row b'.slab k (length_of x)) (sym noted_here));
        none = λ z. absurd (omega arith);
        order = (serves_above l t h, t.order);
      }
    where
      serves_first : {j : ℕ} → Serves b s m.number j → j ≤ place b s
      serves_first (known h n) = omega arith
      serves_first (fresh h n) = omega arith

carries_turned : (r : Result Message Refusal) (reason : Refusal) (stays : Bool) (l : List Carrying) → carries r (Err reason) stays l ≡ l
carries_turned (Err g) reason stays l = refl
carries_turned (Ok m) reason stays l = refl

-- what handling a packet of a sender did to what was carried out for it
pub data Outcome (l : List Carrying) : Result Message Refusal → Result (List ℕ) Refusal → List Carrying → Type 0 where
  turned : {r : Result Message Refusal} (reason : Refusal) → Outcome l r (Err reason) l
  shown : {m : Message} (c : Contents) → Sound c → m.content ≡ discovery_request → (bytes : List ℕ) → packet_of bytes ≡ Ok (reply_to c m) → Outcome l (Ok m) (Ok bytes) l
  once_more : {m : Message} (x : Carrying) → Mem x l → transacts m.content ≡ true → Outcome l (Ok m) (Ok x.reply) l
  carried_out : {m : Message} (c : Contents) → Sound c → transacts m.content ≡ true → (bytes : List ℕ) → packet_of bytes ≡ Ok (reply_to c m)
      → Outcome l (Ok m) (Ok bytes) (record { number = m.number; request = m.content; reply = bytes } ∷ l)

kept_in : (b : Box) (k : ℕ) (l : List Carrying) → Tells b k l → (x : Carrying) × Mem x l × (x.reply ≡ in_row b.slab k (length_of (record_at b k)))
kept_in b k [] h = absurd h
kept_in b k (x ∷ l) h = (x, inl refl, h.1)

module _ (b : Box) (ok : Steady b) (s : ℕ) (l : List Carrying) (t : Keeps b s l) where
  pub outcome : {r : Result Message Refusal} {a : Result (List ℕ) Refusal} {b' : Box} → Handles b s r a b' → (stays : Bool) → (b'.contents ≡ b.contents → stays ≡ true)
      → Outcome l r a (carries r a stays l)
  outcome (turns {r = r} reason) stays st = rw (carries_turned r reason stays l) (turned reason)
  outcome (shows {m = m} d bytes e back) stays st = let z : transacts m.content ≡ false = ap transacts d in rw z (shown b.contents ok.sound d bytes back)
  outcome (again {m = m} z h n) stays st =
      let y = kept_in b (place b s) l (t.newest h) in
      rw (z, st refl, repeats_it b (place b s) m.number l (t.newest h) n) (rw (← y.2) (once_more y.0 y.1 z))
  outcome (carries_out {m = m} {k = k} z h full bytes e small back) stays st =
      rw (z, repeats_not m.number bytes stays l (serves_above l t h)) (carried_out b.contents ok.sound z bytes back)

  keeps_same : {r : Result Message Refusal} {a : Result (List ℕ) Refusal} {b' : Box} → Handles b s r a b' → (stays : Bool) → (b'.contents ≡ b.contents → stays ≡ true)
      → Keeps b' s (carries r a stays l)
  keeps_same (turns {r = r} reason) stays st = rw (carries_turned r reason stays l) t
  keeps_same (shows {m = m} d bytes e back) stays st = let z : transacts m.content ≡ false = ap transacts d in rw z (record { newest = t.newest; none = t.none; order = t.order })
  keeps_same (again {m = m} z h n) stays st = rw (z, st refl, repeats_it b (place b s) m.number l (t.newest h) n) t
  keeps_same (carries_out {m = m} {k = k} z h full bytes e small back) stays st =
      rw (z, repeats_not m.number bytes stays l (serves_above l t h)) (keeps_new b ok s l t m k bytes h full small)

-- over the calls of one box
abbrev pub BoxRun : Box → List BoxCall → Type 0
BoxRun b [] = Unit {0}
BoxRun b (x ∷ cs) = BoxRun b cs × BoxAnswers (box_after b cs) x

abbrev told_by : Box → ℕ → List ℕ → Result (List ℕ) Refusal
told_by b f p = replied_with (handled b f p).answer (handled b f p).after.slab (handled b f p).after.reply

call_keeps : (b : Box) → Steady b → (s : ℕ) (l : List Carrying) → Keeps b s l → (f : ℕ) (p : List ℕ) (a : Result (List ℕ) Refusal) (stays : Bool) → BoxAnswers b (handle f p a stays)
    → (v : Bool) → eqb f s ≡ v → Keeps (handled b f p).after s (cond v (carries (packet_of p) a stays l) l)
call_keeps b ok s l t f p a stays h false e = keeps_other b ok s l t f (eqb-false f s e) (handling b ok f p)
call_keeps b ok s l t f p a stays h true e =
    let z = eqb-true f s e in
    let u : Keeps b f l = subst (λ (q : ℕ). Keeps b q l) (sym z) t in
    subst (λ (q : Result (List ℕ) Refusal). Keeps (handled b f p).after s (carries (packet_of p) q stays l)) (sym h.0)
    (subst (λ (q : ℕ). Keeps (handled b f p).after q (carries (packet_of p) (told_by b f p) stays l)) z
    (keeps_same b ok f l u (handling b ok f p) stays h.1.1))

empty_place : (s n : ℕ) → first_by (is_of s) (replicate n blank) ≡ n
empty_place s zero = refl
empty_place s (suc n) = ap suc (empty_place s n)

pub box_keeps : (c : Contents) (slab reply : List ℕ) → Sound c → (cs : List BoxCall) → BoxRun (new_box c slab reply) cs → (s : ℕ) → Keeps (box_after (new_box c slab reply) cs) s (carryings s cs)
box_keeps c slab reply ok [] h s = record { newest = λ z. absurd (omega (arith, empty_place s 16)); none = λ z. refl; order = tt }
box_keeps c slab reply ok (handle f p a stays ∷ cs) h s =
    let b = new_box c slab reply in
    call_keeps (box_after b cs) (box_steady b (new_steady c slab reply ok) cs) s (carryings s cs) (box_keeps c slab reply ok cs h.0 s) f p a stays h.1 (eqb f s) refl
box_keeps c slab reply ok (owner_write k t text code ∷ cs) h s =
    let i = box_keeps c slab reply ok cs h.0 s in
    record { newest = i.newest; none = i.none; order = i.order }
