-- The ways of each call at a catalogue, with what each of them shows.
use Rattle.std.proofs.Common.{◌≡◌, ℕ, ◌<◌, ◌≤◌, Bool, true, false, not, ◌||◌, eqb, ltb, leb, List, [], ◌∷◌, ◌++◌, length, is_some, Some, None, Ok, Err, Option, Result, refl, arith}
use Rattle.std.proofs.lemmas.Bool.{cond_both, ltb-false, leb-true, leb-false, eqb-true, and_parts, or_parts, not-false, true≢false}
use Rattle.protocol.specs.declared.refusal.Refusal.{Refusal}
use Rattle.protocol.specs.declared.refusal.Refusal.TheVariants.{Time, ShortMemory, Unknown, Limit, StillWaits, Exhausted, Enlisted, NoneWaits, Direction, NoMatch}
use Rattle.field.specs.Words.{command_number}
use Rattle.field.specs.declared.words.Command.{Command}
use Rattle.field.specs.declared.words.Command.TheVariants.{Read, Write, Discovery}
use Rattle.field.specs.declared.words.Direction.TheVariants as D
use Rattle.packet.specs.Messages.{Message, Content, read_request, write_request, discovery_request, read_answer, write_answer, discovery_answer, direction_of, command_of, count_of, packet_of}
use Rattle.writer.specs.Bytes.{bytes_of}
use Rattle.writer.specs.Orders.{asked}
use Rattle.catalogue.specs.declared.partner.Waiting.{Waiting}
use Rattle.catalogue.specs.Stations.{Station, newcomer, partner_at, Enlisting, enlisting, untimely, unknown}
use Rattle.catalogue.specs.Opening.{Opening, not_opened, partner, opened, opening}
use Rattle.catalogue.specs.Polling.{Polling, not_polled, at_rest, sent_again, given_up, spent, when_due, polling}
use Rattle.catalogue.specs.Receiving.{Receiving, not_received, agrees, answered, for_waiting, from_partner, by_content, by_packet, receiving}
use Rattle.catalogue.specs.Withdrawing.{Withdrawing, not_withdrawn, withdrawn, withdrawing}
use Rattle.link.proofs.Basics.{first_most}

none_of : {A : Type 0} (o : Option A) → is_some o ≡ false → o ≡ None
none_of None e = refl
none_of (Some x) e = absurd (true≢false e)

-- the catalogue with one partner more
abbrev pub joined : Station → ℕ → Station
joined s a = record { timing = s.timing; clock = s.clock; partners = s.partners ++ (newcomer a ∷ []); counts = s.counts }

pub data Enlists (s : Station) (a : ℕ) : Enlisting → Type 0 where
  enlists_not : Enlists s a (record { answer = Err Enlisted; after = s })
  enlists_new : partner_at s.partners a ≡ length s.partners → length s.partners < 16
      → Enlists s a (record { answer = Ok (length s.partners); after = joined s a })

pub enlists_view : (s : Station) (a : ℕ) → Enlists s a (enlisting s a)
enlists_view s a =
    cond_both (ltb (partner_at s.partners a) (length s.partners) || leb 16 (length s.partners)) _ _ (Enlists s a)
    (λ _. enlists_not)
    (λ e.
    let p = or_parts (ltb (partner_at s.partners a) (length s.partners)) (leb 16 (length s.partners)) e in
    let l = ltb-false _ _ p.0 in
    let m = first_most (λ q. eqb q.address a) s.partners in
    enlists_new (omega arith) (leb-false 16 (length s.partners) p.1))

module _ (s : Station) (slab : List ℕ) (k time : ℕ) (allowed : Bool) (content : Content) where
  pub data Opens : Opening → Type 0 where
    opens_not : (g : Refusal) → Opens (not_opened s slab g)
    opens_new : 8192 ≤ length slab → k < length s.partners → allowed ≡ true → (partner s k).waiting ≡ None → (partner s k).next < 65536
        → Opens (opened s slab k time content (bytes_of (asked (partner s k).next content)))

module _ (s : Station) (slab : List ℕ) (k time : ℕ) (allowed : Bool) (content : Content) where
  pub opens_view : Opens s slab k time allowed content (opening s slab k time allowed content)
  opens_view =
      cond_both (untimely s time) _ _ (Opens s slab k time allowed content) (λ _. opens_not Time)
      (λ _. cond_both (ltb (length slab) 8192) _ _ (Opens s slab k time allowed content) (λ _. opens_not ShortMemory)
      (λ a. cond_both (unknown s k) _ _ (Opens s slab k time allowed content) (λ _. opens_not Unknown)
      (λ b. cond_both (not allowed) _ _ (Opens s slab k time allowed content) (λ _. opens_not Limit)
      (λ c. cond_both (is_some (partner s k).waiting) _ _ (Opens s slab k time allowed content) (λ _. opens_not StillWaits)
      (λ d. cond_both (leb 65536 (partner s k).next) _ _ (Opens s slab k time allowed content) (λ _. opens_not Exhausted)
      (λ e. opens_new (ltb-false (length slab) 8192 a) (leb-false (length s.partners) k b) (not-false allowed c) (none_of (partner s k).waiting d) (leb-false 65536 (partner s k).next e)))))))

module _ (s : Station) (k time : ℕ) where
  pub data Polls : Polling → Type 0 where
    polls_not : (g : Refusal) → Polls (not_polled s g)
    polls_rests : Polls (at_rest s time)
    polls_again : (w : Waiting) → k < length s.partners → (partner s k).waiting ≡ Some w → Polls (sent_again s k time w)
    polls_fails : (w : Waiting) → k < length s.partners → (partner s k).waiting ≡ Some w → Polls (given_up s k time w)

module _ (s : Station) (k time : ℕ) where
  due_view : k < length s.partners → (o : Option Waiting) → (partner s k).waiting ≡ o → Polls s k time (when_due s k time o)
  due_view h None e = polls_rests
  due_view h (Some w) e =
      cond_both (ltb time w.deadline) _ _ (Polls s k time) (λ _. polls_rests)
      (λ _. cond_both (spent s.timing w) _ _ (Polls s k time) (λ _. polls_fails w h e) (λ _. polls_again w h e))

  pub polls_view : Polls s k time (polling s k time)
  polls_view =
      cond_both (untimely s time) _ _ (Polls s k time) (λ _. polls_not Time)
      (λ _. cond_both (unknown s k) _ _ (Polls s k time) (λ _. polls_not Unknown)
      (λ b. due_view (leb-false (length s.partners) k b) (partner s k).waiting refl))

module _ (s : Station) (k : ℕ) where
  pub data Withdraws : Withdrawing → Type 0 where
    withdraws_nobody : length s.partners ≤ k → Withdraws (not_withdrawn s Unknown)
    withdraws_none : k < length s.partners → (partner s k).waiting ≡ None → Withdraws (not_withdrawn s NoneWaits)
    withdraws_done : (w : Waiting) → k < length s.partners → (partner s k).waiting ≡ Some w → Withdraws (withdrawn s k (Some w))

module _ (s : Station) (k : ℕ) where
  withdrawn_view : k < length s.partners → (o : Option Waiting) → (partner s k).waiting ≡ o → Withdraws s k (withdrawn s k o)
  withdrawn_view h None e = withdraws_none h e
  withdrawn_view h (Some w) e = withdraws_done w h e

  pub withdraws_view : Withdraws s k (withdrawing s k)
  withdraws_view =
      cond_both (unknown s k) _ _ (Withdraws s k) (λ b. withdraws_nobody (leb-true (length s.partners) k b))
      (λ b. withdrawn_view (leb-false (length s.partners) k b) (partner s k).waiting refl)

-- the message agrees with the transaction that waits
pub record Agrees (w : Waiting) (m : Message) : Type 0 where
  pub number : w.number ≡ m.number
  pub command : w.command ≡ command_of m.content
  pub count : w.count ≡ count_of m.content

module _ (s : Station) (f : ℕ) where
  pub data Receives : Result Message Refusal → Receiving → Type 0 where
    receives_not : {r : Result Message Refusal} (g : Refusal) → Receives r (not_received s g)
    receives_ok : (m : Message) (w : Waiting) → partner_at s.partners f < length s.partners → (partner s (partner_at s.partners f)).waiting ≡ Some w
        → Agrees w m → direction_of m.content ≡ D.Answer → Receives (Ok m) (answered s (partner_at s.partners f) m)

one_command : (c d : Command) → command_number c ≡ command_number d → c ≡ d
one_command Read Read e = refl
one_command Read Write e = absurd (omega arith)
one_command Read Discovery e = absurd (omega arith)
one_command Write Read e = absurd (omega arith)
one_command Write Write e = refl
one_command Write Discovery e = absurd (omega arith)
one_command Discovery Read e = absurd (omega arith)
one_command Discovery Write e = absurd (omega arith)
one_command Discovery Discovery e = refl

agreed : (w : Waiting) (m : Message) → agrees w m ≡ true → Agrees w m
agreed w m e =
    let p = and_parts (eqb w.number m.number) _ e in
    let q = and_parts (eqb (command_number w.command) (command_number (command_of m.content))) _ p.1 in
    record {
      number = eqb-true w.number m.number p.0;
      command = one_command w.command (command_of m.content) (eqb-true _ _ q.0);
      count = eqb-true w.count (count_of m.content) q.1;
    }

module _ (s : Station) (f : ℕ) where
  waiting_view : (m : Message) → partner_at s.partners f < length s.partners → direction_of m.content ≡ D.Answer
      → (o : Option Waiting) → (partner s (partner_at s.partners f)).waiting ≡ o → Receives s f (Ok m) (for_waiting s (partner_at s.partners f) m o)
  waiting_view m h d None e = receives_not NoMatch
  waiting_view m h d (Some w) e =
      cond_both (agrees w m) _ _ (Receives s f (Ok m)) (λ a. receives_ok m w h e (agreed w m a) d) (λ _. receives_not NoMatch)

  partner_view : (m : Message) → direction_of m.content ≡ D.Answer → Receives s f (Ok m) (from_partner s (partner_at s.partners f) m)
  partner_view m d =
      cond_both (unknown s (partner_at s.partners f)) _ _ (Receives s f (Ok m)) (λ _. receives_not Unknown)
      (λ b. waiting_view m (leb-false _ _ b) d (partner s (partner_at s.partners f)).waiting refl)

  content_view : (m : Message) (q : Content) → direction_of m.content ≡ direction_of q → Receives s f (Ok m) (by_content s f m q)
  content_view m (read_request indices) e = receives_not Direction
  content_view m (write_request writes) e = receives_not Direction
  content_view m discovery_request e = receives_not Direction
  content_view m (read_answer readouts) e = partner_view m e
  content_view m (write_answer codes) e = partner_view m e
  content_view m (discovery_answer readouts) e = partner_view m e

  packet_view : (r : Result Message Refusal) → Receives s f r (by_packet s f r)
  packet_view (Err g) = receives_not g
  packet_view (Ok m) = content_view m m.content refl

  pub receives_view : (packet : List ℕ) → Receives s f (packet_of packet) (receiving s f packet)
  receives_view packet = packet_view (packet_of packet)
