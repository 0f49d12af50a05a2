-- The packets between the stations: each is a request that was opened, a Discovery request, or the reply of a box to one.
--     OpenedFor       a request between two stations was opened, by an order that is allowed
--     CarriedFor      a carrying out is of such a request, and its reply reads as the answer to it
--     Kind             what a packet that was sent is
--     all_kinds        so is each that was sent, and each carrying out
--     found_all        an answer that was accepted is the reply of a carrying out
use Rattle.std.proofs.Common.{◌≡◌, ℕ, ◌*◌, ◌<◌, ◌≤◌, Bool, true, false, cond, eqb, List, [], ◌∷◌, length, get_or, Ok, Result, sym, refl, ap, ◌∙◌, subst, inl, inr, arith}
use Rattle.std.proofs.lemmas.Bool.{eqb-true, true≢false}
use Rattle.protocol.specs.declared.refusal.Refusal.{Refusal}
use Rattle.field.specs.declared.words.Version.{Version}
use Rattle.field.specs.declared.words.Command.TheVariants.{Discovery}
use Rattle.field.specs.declared.words.Direction.TheVariants as D
use Rattle.packet.specs.Messages.{Message, Content, discovery_request, direction_of, command_of, packet_of}
use Rattle.writer.specs.Bytes.{bytes_of}
use Rattle.writer.specs.Orders.{asked, answered}
use Rattle.slab_rows.specs.Rows.{rowed}
use Rattle.slab_rows.specs.declared.place.Place.TheVariants.{Slab}
use Rattle.store.specs.Contents.{Contents}
use Rattle.mount_box.specs.Carrying.{replied}
use Rattle.mount_box.specs.Handling.{reply_to}
use Rattle.catalogue.specs.declared.partner.Waiting.{Waiting}
use Rattle.catalogue.specs.Stations.{partner_at}
use Rattle.catalogue.specs.Opening.{Opening}
use Rattle.catalogue.specs.Polling.{Polling}
use Rattle.catalogue.specs.Receiving.{Receiving}
use Rattle.link.specs.Calls.{Order, reads, writes, allowed, requested, Narrow, opens, again, CatalogueCall, receive, handle, owner_write, Event, at_catalogue, at_box, Mem, catalogue_calls, box_calls, bytes_in, bytes_at, opened_with, polled_with}
use Rattle.link.specs.Transactions.{enlisted, place_of, opening, answering, moves}
use Rattle.link.specs.Carryings.{Carrying, transacts, carries, carryings}
use Rattle.link.specs.Runs.{Catalogue, BoxAnswers, Sent, earlier, by_opening, by_polling, by_handling, by_discovery, Start, new_box, catalogue_now, box_now, Happens}
use Rattle.link.proofs.Basics.{eqb_self, first_passes}
use Rattle.link.proofs.Rows.{row_here, row_length, part_row}
use Rattle.link.proofs.Asked.{asked_back, asked_size, discovery_back, never_discovery}
use Rattle.link.proofs.Views.{Opens, opens_not, opens_new, opens_view, Polls, polls_not, polls_rests, polls_again, polls_fails, polls_view, Receives, receives_not, receives_ok, receives_view}
use Rattle.link.proofs.CatalogueSide.{WaitsFor, short, waits_for, at, as_many, CatalogueOk, placed, books_of}
use Rattle.link.proofs.BoxSide.{new_steady, box_steady, box_keeps, handling, Outcome, turned, shown, once_more, carried_out, outcome}
use Rattle.link.proofs.Growth.{PartnerAt, partner_grows, move_grows, carrying_grows, catalogue_run_of, box_run_of, older}

-- the station s opened a transaction with b, with this number and request
pub record OpenedFor (h : List Event) (s b n : ℕ) (request : Content) : Type 0 where
  pub partner : ℕ
  pub with_box : PartnerAt (catalogue_calls s h) partner b
  pub order : Order
  pub opened : Mem (opening n order) (moves partner (catalogue_calls s h))
  pub same_request : request ≡ requested order
  pub allows : allowed order ≡ true
  pub narrow : Narrow order
  pub small : n < 65536

-- the reply reads as the answer to the request, where a store meant this
pub record CarriedFor (h : List Event) (s b : ℕ) (x : Carrying) : Type 0 where
  pub asked_for : OpenedFor h s b x.number x.request
  pub version : Version
  pub seen : Contents
  pub reads_as : packet_of x.reply ≡ Ok (answered version x.number (replied seen x.request))

pub data Kind (h : List Event) (f to : ℕ) (q : List ℕ) : Type 0 where
  request_sent : (n : ℕ) (request : Content) → OpenedFor h f to n request → q ≡ bytes_of (asked n request) → Kind h f to q
  discovery_sent : q ≡ bytes_of (asked 0 discovery_request) → Kind h f to q
  reply_sent : (x : Carrying) → Mem x (carryings to (box_calls f h)) → q ≡ x.reply → Kind h f to q
  shown_sent : (c : Contents) (m : Message) → m.content ≡ discovery_request → packet_of q ≡ Ok (reply_to c m) → Kind h f to q

abbrev pub CarriedAll : List Event → Type 0
CarriedAll h = (b s : ℕ) (x : Carrying) → Mem x (carryings s (box_calls b h)) → CarriedFor h s b x

abbrev pub SentAll : List Event → Type 0
SentAll h = (f to : ℕ) (q : List ℕ) → Sent h f to q → Kind h f to q

module _ (e : Event) (h : List Event) where
  opened_grows : (s b n : ℕ) (request : Content) → OpenedFor h s b n request → OpenedFor (e ∷ h) s b n request
  opened_grows s b n request a = record {
    partner = a.partner;
    with_box = partner_grows h e s a.partner b a.with_box;
    order = a.order;
    opened = move_grows h e s a.partner (opening n a.order) a.opened;
    same_request = a.same_request;
    allows = a.allows;
    narrow = a.narrow;
    small = a.small;
  }

  kind_grows : (f to : ℕ) (q : List ℕ) → Kind h f to q → Kind (e ∷ h) f to q
  kind_grows f to q (request_sent n request a z) = request_sent n request (opened_grows f to n request a) z
  kind_grows f to q (discovery_sent z) = discovery_sent z
  kind_grows f to q (reply_sent x m z) = reply_sent x (carrying_grows h e to f x m) z
  kind_grows f to q (shown_sent c m d z) = shown_sent c m d z

  carried_grows : (s b : ℕ) (x : Carrying) → CarriedFor h s b x → CarriedFor (e ∷ h) s b x
  carried_grows s b x a = record { asked_for = opened_grows s b x.number x.request a.asked_for; version = a.version; seen = a.seen; reads_as = a.reads_as }

-- what is read twice is the same
one_message : {r : Result Message Refusal} {a b : Message} → r ≡ Ok a → r ≡ Ok b → a ≡ b
one_message p q = cc

-- a request that was opened reads so
opened_back : (h : List Event) (s b n : ℕ) (request : Content) → OpenedFor h s b n request → packet_of (bytes_of (asked n request)) ≡ Ok (asked n request)
opened_back h s b n request a = rw a.same_request (asked_back a.order n a.allows a.narrow a.small)

-- an answer to what is asked is no request, and has its command
replies_not : (c : Contents) (o : Order) → transacts (replied c (requested o)) ≡ false
replies_not c (reads indices) = refl
replies_not c (writes changes) = refl

shown_not : (c : Contents) (q : Content) → q ≡ discovery_request → (transacts (replied c q) ≡ false) × (command_of (replied c q) ≡ Discovery)
shown_not c q e = rw e (refl, refl)

asks_request : (o : Order) → direction_of (requested o) ≡ D.Request
asks_request (reads indices) = refl
asks_request (writes changes) = refl

not_answer : D.Request ≡ D.Answer → ⊥
not_answer e = cc

-- a packet that reads as a read or write request was opened
pub request_of : (h : List Event) → CarriedAll h → (f to : ℕ) (p : List ℕ) → Kind h f to p → (m : Message) → packet_of p ≡ Ok m → transacts m.content ≡ true
    → OpenedFor h f to m.number m.content
request_of h all f to p (request_sent n request a z) m r t =
    let e : asked n request ≡ m = one_message (ap packet_of z ∙ opened_back h f to n request a) r in
    subst (λ (y : Message). OpenedFor h f to y.number y.content) e a
request_of h all f to p (discovery_sent z) m r t =
    let e : asked 0 discovery_request ≡ m = one_message (ap packet_of z ∙ discovery_back) r in
    absurd (true≢false (sym t ∙ ap (λ (y : Message). transacts y.content) (sym e)))
request_of h all f to p (reply_sent x i z) m r t =
    let a = all f to x i in
    let e : answered a.version x.number (replied a.seen x.request) ≡ m = one_message (ap packet_of z ∙ a.reads_as) r in
    absurd (true≢false (sym t ∙ ap (λ (y : Message). transacts y.content) (sym e)
    ∙ ap (λ (q : Content). transacts (replied a.seen q)) a.asked_for.same_request ∙ replies_not a.seen a.asked_for.order))
request_of h all f to p (shown_sent c n d z) m r t =
    let e : reply_to c n ≡ m = one_message z r in
    absurd (true≢false (sym t ∙ ap (λ (y : Message). transacts y.content) (sym e) ∙ (shown_not c n.content d).0))

-- the packets that a catalogue gives
module _ (k : Catalogue) (cs : List CatalogueCall) (b : CatalogueOk k cs) (i t : ℕ) where
  from_open : (o : Order) (n : ℕ) (q : List ℕ) → Narrow o → {x : Opening} → Opens k.station k.slab i t (allowed o) (requested o) x → opened_with x.answer x.slab ≡ opens n q
      → (allowed o ≡ true) × (n < 65536) × (q ≡ bytes_of (asked n (requested o)))
  from_open o n q nw (opens_not g) e = cc
  from_open o n q nw (opens_new f l a ew s) e =
      let next = (at k.station.partners i).next in
      let bytes = bytes_of (asked next (requested o)) in
      let size = asked_size o next a nw s in
      let m = as_many _ _ _ _ _ _ b in
      let few = b.few in
      let low : i < 16 = omega arith in
      let long : length bytes ≤ 512 = omega arith in
      let same = row_length k.slab i bytes low long f in
      let there : bytes_at (Slab (512 * i) (length bytes)) (rowed k.slab i bytes) [] ≡ bytes =
      ap bytes_in (part_row (rowed k.slab i bytes) [] i (length bytes) low long (omega arith)) ∙ row_here k.slab i bytes low long f in
      let en : next ≡ n = cc in
      let eq : q ≡ bytes = cc in
      (a, subst (λ (y : ℕ). y < 65536) en s, eq ∙ ap (λ (y : ℕ). bytes_of (asked y (requested o))) en)

  from_poll : (q : List ℕ) {x : Polling} → Polls k.station i t x → polled_with x.answer k.slab ≡ again q
      → (w : Waiting) × (y : WaitsFor k.slab i w (moves i cs)) × (q ≡ bytes_of (asked w.number (requested y.order)))
  from_poll q (polls_not g) e = cc
  from_poll q polls_rests e = cc
  from_poll q (polls_fails w l ew) e = cc
  from_poll q (polls_again w l ew) e =
      let y = waits_for k.slab i (at k.station.partners i) (moves i cs) w (b.pairs i) ew in
      let m = as_many _ _ _ _ _ _ b in
      let few = b.few in
      let there : bytes_at (Slab (512 * i) w.length) k.slab [] ≡ bytes_of (asked w.number (requested y.order)) =
      ap bytes_in (part_row k.slab [] i w.length (omega arith) (short y) y.full) ∙ y.packet in
      (w, y, cc)

-- what was settled as answered was carried out, and this is the reply
pub record Found (h : List Event) (c f : ℕ) (m : Message) : Type 0 where
  pub partner : ℕ
  pub with_box : PartnerAt (catalogue_calls c h) partner f
  pub settled : Mem (answering m) (moves partner (catalogue_calls c h))
  pub order : Order
  pub opened : Mem (opening m.number order) (moves partner (catalogue_calls c h))
  pub carrying : Carrying
  pub carried_out : Mem carrying (carryings c (box_calls f h))
  pub same_number : carrying.number ≡ m.number
  pub same_request : carrying.request ≡ requested order
  pub told_as : packet_of carrying.reply ≡ Ok m

-- one event more, of a history that can happen
module _ (S : Start) (h : List Event) (hp : Happens S h) (sent : SentAll h) (all : CarriedAll h) where
  books : (c : ℕ) → CatalogueOk (catalogue_now S h c) (catalogue_calls c h)
  books c = books_of (S.timing c) (S.catalogue_slab c) (catalogue_calls c h) (catalogue_run_of S h hp c)

  handled_outcome : (b f : ℕ) (p : List ℕ) (a : Result (List ℕ) Refusal) (stays : Bool) → BoxAnswers (box_now S h b) (handle f p a stays)
      → Outcome (carryings f (box_calls b h)) (packet_of p) a (carries (packet_of p) a stays (carryings f (box_calls b h)))
  handled_outcome b f p a stays ba =
      let c = S.contents b in
      let steady = box_steady (new_box c (S.box_slab b) (S.box_reply b)) (new_steady c (S.box_slab b) (S.box_reply b) (S.sound b)) (box_calls b h) in
      let keeps = box_keeps c (S.box_slab b) (S.box_reply b) (S.sound b) (box_calls b h) (box_run_of S h hp b) f in
      let l = carryings f (box_calls b h) in
      subst (λ (z : Result (List ℕ) Refusal). Outcome (carryings f (box_calls b h)) (packet_of p) z (carries (packet_of p) z stays (carryings f (box_calls b h)))) (sym ba.0)
      (outcome (box_now S h b) steady f l keeps (handling (box_now S h b) steady f p) stays ba.1.1)

  module _ (b f : ℕ) (p : List ℕ) (arrived : Sent h f b p) (e : Event) where
    reply_kind : {r : Result Message Refusal} {a : Result (List ℕ) Refusal} {l : List Carrying} (q : List ℕ) → Outcome (carryings f (box_calls b h)) r a l → a ≡ Ok q
        → ((x : Carrying) → Mem x l → Mem x (carryings f (box_calls b (e ∷ h)))) → Kind (e ∷ h) b f q
    reply_kind q (turned reason) ea there = cc
    reply_kind q (shown {m = m} c ok d bytes back) ea there =
        let z : bytes ≡ q = cc in
        shown_sent c m d (subst (λ (y : List ℕ). packet_of y ≡ Ok (reply_to c m)) z back)
    reply_kind q (once_more x m t) ea there = reply_sent x (there x m) (cc)
    reply_kind q (carried_out {m = m} c ok t bytes back) ea there = reply_sent (record { number = m.number; request = m.content; reply = bytes }) (there _ (inl refl)) (cc)

    carried_new : {r : Result Message Refusal} {a : Result (List ℕ) Refusal} {l : List Carrying} (x : Carrying) → Outcome (carryings f (box_calls b h)) r a l → packet_of p ≡ r
        → (Mem x (carryings f (box_calls b h)) → CarriedFor (e ∷ h) f b x) → Mem x l → CarriedFor (e ∷ h) f b x
    carried_new x (turned reason) er old m = old m
    carried_new x (shown c ok d bytes back) er old m = old m
    carried_new x (once_more y i t) er old m = old m
    carried_new x (carried_out c ok t bytes back) er old (inr m) = old m
    carried_new x (carried_out {m = n} c ok t bytes back) er old (inl z) =
        subst (λ (y : Carrying). CarriedFor (e ∷ h) f b y) z
        (record { asked_for = opened_grows e h f b n.number n.content (request_of h all f b p (sent f b p arrived) n er t); version = n.version; seen = c; reads_as = back })

  sent_step : (e : Event) → Happens S (e ∷ h) → SentAll (e ∷ h)
  sent_step e hp' f to q (earlier s) = kind_grows e h f to q (sent f to q s)
  sent_step e hp' f to q (by_opening {i = i} {t = t} {n = n} {o = o} l) =
      let k = catalogue_now S h f in
      let y = from_open k (catalogue_calls f h) (books f) i t o n q hp'.1.0 (opens_view k.station k.slab i t (allowed o) (requested o)) (sym hp'.1.1) in
      request_sent n (requested o)
      (record {
        partner = i;
        with_box = rw (eqb_self f) (l, refl);
        order = o;
        opened = rw (eqb_self f) (rw (eqb_self i) (inl refl));
        same_request = refl;
        allows = y.0;
        narrow = hp'.1.0;
        small = y.1;
      }) y.2
  sent_step e hp' f to q (by_polling {i = i} {t = t} l) =
      let k = catalogue_now S h f in
      let y = from_poll k (catalogue_calls f h) (books f) i t q (polls_view k.station i t) (sym hp'.1) in
      let n = y.0.number in
      let w = y.1 in
      request_sent n (requested w.order)
      (opened_grows e h f (get_or (enlisted (catalogue_calls f h)) i 0) n (requested w.order)
      (record { partner = i; with_box = (l, refl); order = w.order; opened = w.opened; same_request = refl; allows = w.allows; narrow = w.narrow; small = w.small })) y.2
  sent_step e hp' f to q (by_handling {p = p} {stays = stays}) =
      reply_kind f to p hp'.2 (at_box f (handle to p (Ok q) stays)) q (handled_outcome f to p (Ok q) stays hp'.1) refl (λ x m. rw (eqb_self f) (rw (eqb_self to) m))
  sent_step e hp' f to q by_discovery = discovery_sent hp'.1

  carried_step : (e : Event) → Happens S (e ∷ h) → CarriedAll (e ∷ h)
  carried_step (at_catalogue d x) hp' b s y m = carried_grows (at_catalogue d x) h s b y (all b s y m)
  carried_step (at_box d (owner_write k t text code)) hp' b s y m = go (eqb d b) m
    where
      go : (v : Bool) → Mem y (carryings s (cond v (owner_write k t text code ∷ box_calls b h) (box_calls b h))) → CarriedFor (at_box d (owner_write k t text code) ∷ h) s b y
      go true m = carried_grows (at_box d (owner_write k t text code)) h s b y (all b s y m)
      go false m = carried_grows (at_box d (owner_write k t text code)) h s b y (all b s y m)
  carried_step (at_box d (handle f p a stays)) hp' b s y m = go (eqb d b) refl m
    where
      e : Event
      e = at_box d (handle f p a stays)

      here : eqb d b ≡ true → (v : Bool) → eqb f s ≡ v → Mem y (cond v (carries (packet_of p) a stays (carryings s (box_calls b h))) (carryings s (box_calls b h))) → CarriedFor (e ∷ h) s b y
      here ed false ef m = carried_grows e h s b y (all b s y m)
      here ed true ef m =
          let zd = eqb-true d b ed in
          let zf = eqb-true f s ef in
          let m₁ : Mem y (carries (packet_of p) a stays (carryings f (box_calls b h))) = subst (λ (q : ℕ). Mem y (carries (packet_of p) a stays (carryings q (box_calls b h)))) (sym zf) m in
          let m₂ : Mem y (carries (packet_of p) a stays (carryings f (box_calls d h))) = subst (λ (q : ℕ). Mem y (carries (packet_of p) a stays (carryings f (box_calls q h)))) (sym zd) m₁ in
          let r = carried_new d f p hp'.2 e y (handled_outcome d f p a stays hp'.1) refl (λ o. carried_grows e h f d y (all d f y o)) m₂ in
          subst (λ (q : ℕ). CarriedFor (e ∷ h) s q y) zd (subst (λ (q : ℕ). CarriedFor (e ∷ h) q d y) zf r)

      go : (v : Bool) → eqb d b ≡ v → Mem y (carryings s (cond v (handle f p a stays ∷ box_calls b h) (box_calls b h))) → CarriedFor (e ∷ h) s b y
      go false ed m = carried_grows e h s b y (all b s y m)
      go true ed m = here ed (eqb f s) refl m

  -- what receiving accepted
  accepted : (c f : ℕ) (m : Message) {r : Result Message Refusal} {x : Receiving} → Receives (catalogue_now S h c).station f r x → x.answer ≡ Ok m
      → (r ≡ Ok m) × (direction_of m.content ≡ D.Answer) × (command_of m.content ≡ Discovery → ⊥) × (place_of f (enlisted (catalogue_calls c h)) < length (enlisted (catalogue_calls c h)))
  accepted c f m (receives_not g) e = cc
  accepted c f m (receives_ok n w l ew a d) e =
      let k = catalogue_now S h c in
      let i = partner_at k.station.partners f in
      let y = waits_for k.slab i (at k.station.partners i) (moves i (catalogue_calls c h)) w ((books c).pairs i) ew in
      let z : n ≡ m = cc in
      let many = as_many _ _ _ _ _ _ (books c) in
      let there = placed k (catalogue_calls c h) (books c) f in (
        ap Ok z,
        ap (λ (q : Message). direction_of q.content) (sym z) ∙ d,
        λ dc. never_discovery y.order (sym y.command ∙ a.command ∙ ap (λ (q : Message). command_of q.content) z ∙ dc),
        omega arith,
      )

  -- an answer that is none to Discovery is the reply of a carrying out
  from_box : (c f : ℕ) (m : Message) (p : List ℕ) → packet_of p ≡ Ok m → direction_of m.content ≡ D.Answer → (command_of m.content ≡ Discovery → ⊥) → Kind h f c p
      → (x : Carrying) × Mem x (carryings c (box_calls f h)) × (x.number ≡ m.number) × (packet_of x.reply ≡ Ok m)
  from_box c f m p r d ne (request_sent n request a z) =
      let e : asked n request ≡ m = one_message (ap packet_of z ∙ opened_back h f c n request a) r in
      absurd (not_answer (sym (asks_request a.order) ∙ ap direction_of (sym a.same_request) ∙ ap (λ (q : Message). direction_of q.content) e ∙ d))
  from_box c f m p r d ne (discovery_sent z) =
      let e : asked 0 discovery_request ≡ m = one_message (ap packet_of z ∙ discovery_back) r in
      absurd (not_answer (ap (λ (q : Message). direction_of q.content) e ∙ d))
  from_box c f m p r d ne (reply_sent x i z) =
      let a = all f c x i in
      let back : packet_of x.reply ≡ Ok m = ap packet_of (sym z) ∙ r in
      let e : answered a.version x.number (replied a.seen x.request) ≡ m = one_message a.reads_as back in
      (x, i, ap (λ (q : Message). q.number) e, back)
  from_box c f m p r d ne (shown_sent s n dq z) =
      let e : reply_to s n ≡ m = one_message z r in
      absurd (ne (ap (λ (q : Message). command_of q.content) (sym e) ∙ (shown_not s n.content dq).1))

  found_new : (c f : ℕ) (p : List ℕ) (m : Message) → Happens S (at_catalogue c (receive f p (Ok m)) ∷ h) → Found (at_catalogue c (receive f p (Ok m)) ∷ h) c f m
  found_new c f p m hp' =
      let cs = catalogue_calls c h in
      let e = at_catalogue c (receive f p (Ok m)) in
      let y = accepted c f m (receives_view (catalogue_now S h c).station f p) (sym hp'.1) in
      let x = from_box c f m p y.0 y.1 y.2 (sent f c p hp'.2) in
      let a = (all f c x.0 x.1).asked_for in
      let i = place_of f (enlisted cs) in
      let here : get_or (enlisted cs) i 0 ≡ f = eqb-true (get_or (enlisted cs) i 0) f (first_passes (λ b. eqb b f) (enlisted cs) 0 y.3) in
      let same : a.partner ≡ i = (books c).distinct a.partner i a.with_box.0 y.3 (a.with_box.1 ∙ sym here) in
      let o₁ : Mem (opening x.0.number a.order) (moves i cs) = subst (λ (q : ℕ). Mem (opening x.0.number a.order) (moves q cs)) same a.opened in
      let o₂ : Mem (opening m.number a.order) (moves i cs) = subst (λ (q : ℕ). Mem (opening q a.order) (moves i cs)) x.2 o₁ in
      record {
        partner = i;
        with_box = partner_grows h e c i f (y.3, here);
        settled = rw (eqb_self c) (rw (eqb_self i) (inl refl));
        order = a.order;
        opened = move_grows h e c i (opening m.number a.order) o₂;
        carrying = x.0;
        carried_out = x.1;
        same_number = x.2;
        same_request = a.same_request;
        told_as = x.3;
      }

found_grows : (e : Event) (h : List Event) (c f : ℕ) (m : Message) → Found h c f m → Found (e ∷ h) c f m
found_grows e h c f m x = record {
  partner = x.partner;
  with_box = partner_grows h e c x.partner f x.with_box;
  settled = move_grows h e c x.partner (answering m) x.settled;
  order = x.order;
  opened = move_grows h e c x.partner (opening m.number x.order) x.opened;
  carrying = x.carrying;
  carried_out = carrying_grows h e c f x.carrying x.carried_out;
  same_number = x.same_number;
  same_request = x.same_request;
  told_as = x.told_as;
}

module _ (S : Start) where
  pub all_kinds : (h : List Event) → Happens S h → SentAll h × CarriedAll h
  all_kinds [] hp = (λ f to q s. elim s [ ], λ b s x m. absurd m)
  all_kinds (e ∷ h) hp =
      let hp' = older S e h hp in
      let n = all_kinds h hp' in
      (sent_step S h hp' n.0 n.1 e hp, carried_step S h hp' n.0 n.1 e hp)

  pub found_all : (h : List Event) → Happens S h → (c f : ℕ) (p : List ℕ) (m : Message) → Mem (at_catalogue c (receive f p (Ok m))) h → Found h c f m
  found_all [] hp c f p m i = absurd i
  found_all (e ∷ h) hp c f p m (inr i) = found_grows e h c f m (found_all h (older S e h hp) c f p m i)
  found_all (e ∷ h) hp c f p m (inl z) =
      let hp' = older S e h hp in
      let n = all_kinds h hp' in
      subst (λ (y : Event). Found (y ∷ h) c f m) (sym z) (found_new S h hp' n.0 n.1 c f p m (subst (λ (y : Event). Happens S (y ∷ h)) z hp))
