-- One catalogue and its own calls: what it holds beside what its calls say.
--     Books       its partners, slab and counts beside the calls
--     books_of    each catalogue keeps them
use Rattle.std.proofs.Common.{◌≡◌, ℕ, zero, suc, ◌+◌, ◌<◌, ◌≤◌, Bool, true, false, cond, eqb, ltb, ◌⊎◌, List, [], ◌∷◌, ◌++◌, map, length, get_or, set, Some, None, Option, Result, sym, refl, ap, ◌∙◌, subst, inl, inr, add-one, arith}
use lib.Seq.{map-set_same}
use Rattle.std.proofs.lemmas.List.{length-map, length_push, get_or_push, get_or_append_left, get_or_past, get_or-set_same, get_or-set_other, map_push}
use Rattle.std.proofs.lemmas.Bool.{eqb-true, eqb-false, eq-eqb, ne_eqb, cases_eq, cases_lt}
use Rattle.std.proofs.lemmas.Bool.Decides.{nat_tests}
use Rattle.protocol.specs.declared.refusal.Refusal.{Refusal}
use Rattle.packet.specs.Messages.{Message, command_of, count_of}
use Rattle.writer.specs.Bytes.{bytes_of}
use Rattle.writer.specs.Orders.{asked}
use Rattle.slab_rows.specs.Rows.{rowed, in_row}
use Rattle.catalogue.specs.declared.partner.Partner.{Partner}
use Rattle.catalogue.specs.declared.partner.Waiting.{Waiting}
use Rattle.catalogue.specs.declared.told.Counts.{Counts}
use Rattle.catalogue.specs.declared.timing.Timing.{Timing}
use Rattle.catalogue.specs.Stations.{new_station, newcomer, freed, partner_at, Enlisting}
use Rattle.catalogue.specs.Opening.{Opening, asking, count_opened}
use Rattle.catalogue.specs.Polling.{Polling, longer, with_waiting, count_repeated, count_failed}
use Rattle.catalogue.specs.Receiving.{Receiving, count_answered}
use Rattle.catalogue.specs.Withdrawing.{Withdrawing, count_withdrawn}
use Rattle.link.specs.Calls.{Order, allowed, requested, Narrow, Opened, Polled, CatalogueCall, enlist, open_order, poll, withdraw, receive, discover, Mem, opened_with, polled_with}
use Rattle.link.specs.Runs.{Catalogue, catalogue_next, CatalogueAnswers, catalogue_after}
use Rattle.link.specs.Transactions.{enlisted, place_of, Move, opening, failing, withdrawing, answering, moves, waits, one, times, openings, settlings, SettlesWaiting, OpenedBelow, NumbersRise, tally, sum_below}
use Rattle.link.proofs.Basics.{eqb_self, first_until, first_map}
use Rattle.link.proofs.Rows.{row_length, row_here, row_other}
use Rattle.link.proofs.Asked.{asked_size}
use Rattle.link.proofs.Views.{Enlists, enlists_not, enlists_new, enlists_view, Opens, opens_not, opens_new, opens_view, Polls, polls_not, polls_rests, polls_again, polls_fails, polls_view, Withdraws, withdraws_nobody, withdraws_none, withdraws_done, withdraws_view, Receives, receives_not, receives_ok, receives_view}

-- the transaction that waits at the k-th partner: it alone waits, as it was opened, and its packet stands in the row
pub record WaitsFor (slab : List ℕ) (k : ℕ) (w : Waiting) (ms : List Move) : Type 0 where
  pub alone : waits ms ≡ w.number ∷ []
  pub order : Order
  pub opened : Mem (opening w.number order) ms
  pub allows : allowed order ≡ true
  pub narrow : Narrow order
  pub small : w.number < 65536
  pub command : w.command ≡ command_of (requested order)
  pub count : w.count ≡ count_of (requested order)
  pub size : w.length ≡ length (bytes_of (asked w.number (requested order)))
  pub full : 8192 ≤ length slab
  pub packet : in_row slab k w.length ≡ bytes_of (asked w.number (requested order))

pub short : {slab : List ℕ} {k : ℕ} {w : Waiting} {ms : List Move} → WaitsFor slab k w ms → w.length ≤ 512
short {w = w} x = let z = asked_size x.order w.number x.allows x.narrow x.small in let e = x.size in omega arith

abbrev pub Wait : List ℕ → ℕ → Option Waiting → List Move → Type 0
Wait slab k None ms = waits ms ≡ []
Wait slab k (Some w) ms = WaitsFor slab k w ms

-- what befell the transactions with the k-th partner, beside its next number and what waits
pub record Pair (slab : List ℕ) (k : ℕ) (p : Partner) (ms : List Move) : Type 0 where
  pub fresh : (n : ℕ) → openings n ms ≡ one (ltb n p.next)
  pub once : (n : ℕ) → openings n ms ≡ settlings n ms + times n (waits ms)
  pub below : OpenedBelow p.next ms
  pub rise : NumbersRise ms
  pub settles : SettlesWaiting ms
  pub wait : Wait slab k p.waiting ms

below_up : (ms : List Move) (n : ℕ) → OpenedBelow n ms → OpenedBelow (n + 1) ms
below_up [] n h = tt
below_up (opening m o ∷ ms) n h = (omega arith, below_up ms n h.1)
below_up (failing ∷ ms) n h = below_up ms n h
below_up (withdrawing ∷ ms) n h = below_up ms n h
below_up (answering m ∷ ms) n h = below_up ms n h

one_more : (n m : ℕ) → one (eqb n m) + one (ltb n m) ≡ one (ltb n (m + 1))
one_more n m = grind (arith, nat_tests)

pub none_waits : (slab : List ℕ) (k : ℕ) (p : Partner) (ms : List Move) → Pair slab k p ms → p.waiting ≡ None → waits ms ≡ []
none_waits slab k p ms ok e = subst (λ (o : Option Waiting). Wait slab k o ms) e ok.wait

-- an opening
module _ (slab : List ℕ) (k : ℕ) (p : Partner) (ms : List Move) (ok : Pair slab k p ms) where
  open_pair : (t : Timing) (time : ℕ) (o : Order) → k < 16 → 8192 ≤ length slab → p.waiting ≡ None → p.next < 65536 → allowed o ≡ true → Narrow o
      → let bytes = bytes_of (asked p.next (requested o)) in
      Pair (rowed slab k bytes) k (asking t time (requested o) (length bytes) p) (opening p.next o ∷ ms)
  open_pair t time o l f e s a nw =
      let w = none_waits slab k p ms ok e in
      let z = asked_size o p.next a nw s in
      let bytes = bytes_of (asked p.next (requested o)) in
      let long : length bytes ≤ 512 = omega arith in
      let same = row_length slab k bytes l long f in
      record {
        fresh = λ n. rw (ok.fresh n) (one_more n p.next);
        once = λ n. let a = ok.once n in let b : times n (waits ms) ≡ 0 = rw w in rw w (omega arith);
        below = (omega arith, below_up ms p.next ok.below);
        rise = (ok.below, ok.rise);
        settles = ok.settles;
        wait = record {
          alone = rw w;
          order = o;
          opened = inl refl;
          allows = a;
          narrow = nw;
          small = s;
          command = refl;
          count = refl;
          size = refl;
          full = omega arith;
          packet = row_here slab k bytes l long f;
        };
      }

-- what another row's write leaves
module _ (slab : List ℕ) (k j : ℕ) (bytes : List ℕ) (d : j ≡ k → ⊥) (l : k < 16) (long : length bytes ≤ 512) (f : 8192 ≤ length slab) where
  wait_row : (o : Option Waiting) (ms : List Move) → Wait slab j o ms → Wait (rowed slab k bytes) j o ms
  wait_row None ms x = x
  wait_row (Some w) ms x =
      let same = row_length slab k bytes l long f in
      record {
        alone = x.alone;
        order = x.order;
        opened = x.opened;
        allows = x.allows;
        narrow = x.narrow;
        small = x.small;
        command = x.command;
        count = x.count;
        size = x.size;
        full = omega arith;
        packet = row_other slab k bytes l long f j w.length d (short x) ∙ x.packet;
      }

  pair_row : (p : Partner) (ms : List Move) → Pair slab j p ms → Pair (rowed slab k bytes) j p ms
  pair_row p ms ok = record { fresh = ok.fresh; once = ok.once; below = ok.below; rise = ok.rise; settles = ok.settles; wait = wait_row p.waiting ms ok.wait }

-- a transaction waits: it is sent again, or settled
module _ (slab : List ℕ) (k : ℕ) (p : Partner) (ms : List Move) (w : Waiting) (ok : Pair slab k p ms) (e : p.waiting ≡ Some w) where
  pub waits_for : WaitsFor slab k w ms
  waits_for = subst (λ (o : Option Waiting). Wait slab k o ms) e ok.wait

  again_pair : (time : ℕ) → Pair slab k (with_waiting p (longer time w)) ms
  again_pair time =
      let x = waits_for in
      record {
        fresh = ok.fresh;
        once = ok.once;
        below = ok.below;
        rise = ok.rise;
        settles = ok.settles;
        wait = record {
          alone = x.alone;
          order = x.order;
          opened = x.opened;
          allows = x.allows;
          narrow = x.narrow;
          small = x.small;
          command = x.command;
          count = x.count;
          size = x.size;
          full = x.full;
          packet = x.packet;
        };
      }

  fail_pair : Pair slab k (freed p) (failing ∷ ms)
  fail_pair =
      let a = waits_for.alone in
      record {
        fresh = ok.fresh;
        once = λ n. let o = ok.once n in let b : times n (waits ms) ≡ one (eqb n w.number) + 0 = rw a in rw a (omega arith);
        below = ok.below;
        rise = ok.rise;
        settles = (rw a (omega arith), ok.settles);
        wait = rw a;
      }

  -- withdrawing settles as failing does
  withdraw_pair : Pair slab k (freed p) (withdrawing ∷ ms)
  withdraw_pair = let f = fail_pair in record { fresh = f.fresh; once = f.once; below = f.below; rise = f.rise; settles = f.settles; wait = f.wait }

  answer_pair : (m : Message) → w.number ≡ m.number → Pair slab k (freed p) (answering m ∷ ms)
  answer_pair m h =
      let a : waits ms ≡ m.number ∷ [] = waits_for.alone ∙ ap (λ (q : ℕ). q ∷ []) h in
      record {
        fresh = ok.fresh;
        once = λ n. let o = ok.once n in let b : times n (waits ms) ≡ one (eqb n m.number) + 0 = rw a in rw (a, eqb_self m.number) (omega arith);
        below = ok.below;
        rise = ok.rise;
        settles = (rw a (inl refl), ok.settles);
        wait = rw (a, eqb_self m.number);
      }

-- the k-th of these partners
abbrev pub at : List Partner → ℕ → Partner
at ps k = get_or ps k (newcomer 0)

abbrev pub addresses : List Partner → List ℕ
addresses ps = map (λ (p : Partner). p.address) ps

-- one partner changes, and its moves
pairs_set : (ps : List Partner) (ms : ℕ → List Move) (i : ℕ) (p : Partner) → i < length ps → (slab : List ℕ) → Pair slab i p (ms i)
    → ((j : ℕ) → (j ≡ i → ⊥) → Pair slab j (at ps j) (ms j)) → (j : ℕ) → Pair slab j (at (set ps i p) j) (ms j)
pairs_set ps ms i p l slab ok others j = elim (cases_eq j i) [
  | inl same ↦ subst (λ (q : ℕ). Pair slab q (at (set ps i p) q) (ms q)) (sym same) (subst (λ (q : Partner). Pair slab i q (ms i)) (sym (get_or-set_same ps i p (newcomer 0) l)) ok)
  | inr other ↦ subst (λ (q : Partner). Pair slab j q (ms j)) (sym (get_or-set_other ps i j p (newcomer 0) other)) (others j other)
]

-- one partner more: it has done as much as nobody
at_push : (ps : List Partner) (a j : ℕ) → (at (ps ++ (newcomer a ∷ [])) j ≡ at ps j) ⊎ ((at (ps ++ (newcomer a ∷ [])) j ≡ newcomer a) × (at ps j ≡ newcomer 0))
at_push [] a zero = inr (refl, refl)
at_push [] a (suc j) = inl refl
at_push (x ∷ ps) a zero = inl refl
at_push (x ∷ ps) a (suc j) = at_push ps a j

pair_new : (slab : List ℕ) (j a : ℕ) (ms : List Move) → Pair slab j (newcomer 0) ms → Pair slab j (newcomer a) ms
pair_new slab j a ms ok = record { fresh = ok.fresh; once = ok.once; below = ok.below; rise = ok.rise; settles = ok.settles; wait = ok.wait }

pair_push : (slab : List ℕ) (ps : List Partner) (a j : ℕ) (ms : List Move) → Pair slab j (at ps j) ms → Pair slab j (at (ps ++ (newcomer a ∷ [])) j) ms
pair_push slab ps a j ms ok = go (at_push ps a j)
  where
    go : (at (ps ++ (newcomer a ∷ [])) j ≡ at ps j) ⊎ ((at (ps ++ (newcomer a ∷ [])) j ≡ newcomer a) × (at ps j ≡ newcomer 0)) → Pair slab j (at (ps ++ (newcomer a ∷ [])) j) ms
    go (inl e) = subst (λ (q : Partner). Pair slab j q ms) (sym e) ok
    go (inr e) = subst (λ (q : Partner). Pair slab j q ms) (sym e.0) (pair_new slab j a ms (subst (λ (q : Partner). Pair slab j q ms) e.1 ok))

-- with nobody, nothing waits
pub past_waits : (slab : List ℕ) (ps : List Partner) (j : ℕ) (ms : List Move) → Pair slab j (at ps j) ms → length ps ≤ j → waits ms ≡ []
past_waits slab ps j ms ok h = none_waits slab j (at ps j) ms ok (ap (λ (p : Partner). p.waiting) (get_or_past ps j (newcomer 0) h))

-- sums over the partners
sum_same : (f g : ℕ → ℕ) (k : ℕ) → ((i : ℕ) → i < k → f i ≡ g i) → sum_below f k ≡ sum_below g k
sum_same f g zero h = refl
sum_same f g (suc k) h = let a = h k (omega arith) in let b = sum_same f g k (λ i l. h i (omega arith)) in omega arith

sum_up : (f g : ℕ → ℕ) (k j : ℕ) → j < k → g j ≡ suc (f j) → ((i : ℕ) → (j ≡ i → ⊥) → f i ≡ g i) → sum_below g k ≡ suc (sum_below f k)
sum_up f g zero j l e h = absurd (omega arith)
sum_up f g (suc k) j l e h = go (eqb j k) refl (λ m. sum_up f g k j m e h)
  where
    go : (v : Bool) → eqb j k ≡ v → (j < k → sum_below g k ≡ suc (sum_below f k)) → g k + sum_below g k ≡ suc (f k + sum_below f k)
    go true d ih =
        let z = eqb-true j k d in
        let a : g k ≡ suc (f k) = subst (λ (q : ℕ). g q ≡ suc (f q)) z e in
        let b = sum_same f g k (λ i m. h i (λ y. omega arith)) in omega arith
    go false d ih = let n = eqb-false j k d in let b = ih (omega arith) in let a = h k n in omega arith

-- how many wait, over this many partners
abbrev pub waiting_of : (ℕ → List Move) → ℕ → ℕ
waiting_of ms k = sum_below (λ i. length (waits (ms i))) k

-- opened as often as settled, but for those that wait
abbrev pub Balanced : Counts → ℕ → Type 0
Balanced n waiting = n.opened ≡ n.answered + n.failed + n.withdrawn + waiting

-- a catalogue's partners, slab and counts, beside the addresses enlisted, the moves with each partner, and how many calls of each kind there were
pub record Books (ps : List Partner) (slab : List ℕ) (counts : Counts) (en : List ℕ) (ms : ℕ → List Move) (n : Counts) : Type 0 where
  pub where_to : addresses ps ≡ en
  pub distinct : (i j : ℕ) → i < length en → j < length en → get_or en i 0 ≡ get_or en j 0 → i ≡ j
  pub few : length en ≤ 16
  pub pairs : (j : ℕ) → Pair slab j (at ps j) (ms j)
  pub counted : counts ≡ n
  pub balance : Balanced n (waiting_of ms (length en))

module _ (ps : List Partner) (slab : List ℕ) (counts : Counts) (en : List ℕ) (ms : ℕ → List Move) (n : Counts) (b : Books ps slab counts en ms n) where
  pub as_many : length en ≡ length ps
  as_many = sym (ap length b.where_to) ∙ length-map ps (λ (p : Partner). p.address)

module _ (ps : List Partner) (slab : List ℕ) (counts : Counts) (en : List ℕ) (ms : ℕ → List Move) (n : Counts) (b : Books ps slab counts en ms n)
    (i : ℕ) (p : Partner) (l : i < length ps) (ad : p.address ≡ (at ps i).address) where
  still : addresses (set ps i p) ≡ en
  still = map-set_same (λ (q : Partner). q.address) ps i p (newcomer 0) ad ∙ b.where_to

  apart : (m : Move) (j : ℕ) → (i ≡ j → ⊥) → length (waits (ms j)) ≡ length (waits (cond (eqb i j) (m ∷ ms j) (ms j)))
  apart m j d = rw (ne_eqb i j d)

  -- one more waits
  summed_up : (m : Move) → length (waits (m ∷ ms i)) ≡ suc (length (waits (ms i)))
      → waiting_of (λ j. cond (eqb i j) (m ∷ ms j) (ms j)) (length en) ≡ suc (waiting_of ms (length en))
  summed_up m h =
      let z = as_many ps slab counts en ms n b in
      sum_up (λ j. length (waits (ms j))) (λ j. length (waits (cond (eqb i j) (m ∷ ms j) (ms j)))) (length en) i (omega arith) (rw (eqb_self i) h) (apart m)

  -- one fewer waits
  summed_down : (m : Move) → length (waits (ms i)) ≡ suc (length (waits (m ∷ ms i)))
      → waiting_of ms (length en) ≡ suc (waiting_of (λ j. cond (eqb i j) (m ∷ ms j) (ms j)) (length en))
  summed_down m h =
      let z = as_many ps slab counts en ms n b in
      sum_up (λ j. length (waits (cond (eqb i j) (m ∷ ms j) (ms j)))) (λ j. length (waits (ms j))) (length en) i (omega arith) (rw (eqb_self i) h) (λ j d. sym (apart m j d))

  -- a move at the i-th partner
  books_moved : (slab' : List ℕ) (counts' n' : Counts) (m : Move) → Pair slab' i p (m ∷ ms i) → ((j : ℕ) → (j ≡ i → ⊥) → Pair slab' j (at ps j) (ms j))
      → counts' ≡ n' → Balanced n' (waiting_of (λ j. cond (eqb i j) (m ∷ ms j) (ms j)) (length en))
      → Books (set ps i p) slab' counts' en (λ j. cond (eqb i j) (m ∷ ms j) (ms j)) n'
  books_moved slab' counts' n' m ok others e s = record {
    where_to = still;
    distinct = b.distinct;
    few = b.few;
    pairs = pairs_set ps (λ j. cond (eqb i j) (m ∷ ms j) (ms j)) i p l slab' (rw (eqb_self i) ok) (λ j d. rw (ne_eqb i j (λ e. d (sym e))) (others j d));
    counted = e;
    balance = s;
  }

  -- no move, as where a packet is sent again
  books_stayed : (counts' n' : Counts) → Pair slab i p (ms i) → counts' ≡ n' → Balanced n' (waiting_of ms (length en)) → Books (set ps i p) slab counts' en ms n'
  books_stayed counts' n' ok e s = record {
    where_to = still;
    distinct = b.distinct;
    few = b.few;
    pairs = pairs_set ps ms i p l slab ok (λ j _. b.pairs j);
    counted = e;
    balance = s;
  }

  -- a settling: one waited, and none does
  books_settled : (counts' n' : Counts) (w : Waiting) → (at ps i).waiting ≡ Some w → p.waiting ≡ None → (m : Move) → Pair slab i p (m ∷ ms i) → counts' ≡ n'
      → n'.opened ≡ n.opened → n'.answered + n'.failed + n'.withdrawn ≡ suc (n.answered + n.failed + n.withdrawn)
      → Books (set ps i p) slab counts' en (λ j. cond (eqb i j) (m ∷ ms j) (ms j)) n'
  books_settled counts' n' w e free m ok same opened settled =
      let y = none_waits slab i p (m ∷ ms i) ok free in
      let z = (waits_for slab i (at ps i) (ms i) w (b.pairs i) e).alone in
      let fewer = summed_down m (ap length z ∙ sym (ap (λ (q : List ℕ). suc (length q)) y)) in
      let was = b.balance in
      books_moved slab counts' n' m ok (λ j _. b.pairs j) same (omega arith)

-- an address that is new, at the end
distinct_push : (xs : List ℕ) (x : ℕ) → place_of x xs ≡ length xs → ((i j : ℕ) → i < length xs → j < length xs → get_or xs i 0 ≡ get_or xs j 0 → i ≡ j)
    → (i j : ℕ) → i < length (xs ++ (x ∷ [])) → j < length (xs ++ (x ∷ [])) → get_or (xs ++ (x ∷ [])) i 0 ≡ get_or (xs ++ (x ∷ [])) j 0 → i ≡ j
distinct_push xs x new old i j hi hj e =
    let l = length_push xs x in
    go (cases_lt i (length xs)) (cases_lt j (length xs))
  where
    low : (n : ℕ) → n < length xs → get_or (xs ++ (x ∷ [])) n 0 ≡ get_or xs n 0
    low n h = get_or_append_left xs (x ∷ []) 0 n h

    high : (n : ℕ) → n < length (xs ++ (x ∷ [])) → length xs ≤ n → length xs ≡ n
    high n h m = let l = length_push xs x in omega arith

    last : (n : ℕ) → length xs ≡ n → get_or (xs ++ (x ∷ [])) n 0 ≡ x
    last n z = get_or_push xs x 0 n z

    nowhere : (n : ℕ) → n < length xs → get_or xs n 0 ≡ x → ⊥
    nowhere n h z = let f = first_until (λ b. eqb b x) xs 0 n h (eq-eqb (get_or xs n 0) x z) in omega arith

    go : (i < length xs) ⊎ (length xs ≤ i) → (j < length xs) ⊎ (length xs ≤ j) → i ≡ j
    go (inl a) (inl b) = old i j a b (sym (low i a) ∙ e ∙ low j b)
    go (inl a) (inr b) = absurd (nowhere i a (sym (low i a) ∙ e ∙ last j (high j hj b)))
    go (inr a) (inl b) = absurd (nowhere j b (sym (low j b) ∙ sym e ∙ last i (high i hi a)))
    go (inr a) (inr b) = sym (high i hi a) ∙ high j hj b

place_at : (ps : List Partner) (a : ℕ) → partner_at ps a ≡ place_of a (addresses ps)
place_at ps a = first_map (λ b. eqb b a) (λ (p : Partner). p.address) ps

books_enlisted : (ps : List Partner) (slab : List ℕ) (counts : Counts) (en : List ℕ) (ms : ℕ → List Move) (n : Counts) → Books ps slab counts en ms n
    → (a : ℕ) → partner_at ps a ≡ length ps → length ps < 16 → Books (ps ++ (newcomer a ∷ [])) slab counts (en ++ (a ∷ [])) ms n
books_enlisted ps slab counts en ms n b a new l =
    let z = as_many ps slab counts en ms n b in
    let k = length_push en a in
    record {
      where_to = map_push (λ (p : Partner). p.address) ps (newcomer a) ∙ ap (λ (q : List ℕ). q ++ (a ∷ [])) b.where_to;
      distinct = distinct_push en a (ap (place_of a) (sym b.where_to) ∙ sym (place_at ps a) ∙ new ∙ sym z) b.distinct;
      few = omega arith;
      pairs = λ j. pair_push slab ps a j (ms j) (b.pairs j);
      counted = b.counted;
      balance =
          let y : length (waits (ms (length en))) ≡ 0 = ap length (past_waits slab ps (length en) (ms (length en)) (b.pairs (length en)) (omega arith)) in
          let t = b.balance in
          rw (k, add-one) (omega arith);
    }

abbrev pub CatalogueOk : Catalogue → List CatalogueCall → Type 0
CatalogueOk k cs = Books k.station.partners k.slab k.station.counts (enlisted cs) (λ i. moves i cs) (tally cs)

module _ (k : Catalogue) (cs : List CatalogueCall) (b : CatalogueOk k cs) where
  enlist_ok : (a : ℕ) {x : Enlisting} → Enlists k.station a x → CatalogueOk (record { station = x.after; slab = k.slab }) (enlist a x.answer ∷ cs)
  enlist_ok a enlists_not = b
  enlist_ok a (enlists_new new l) = books_enlisted _ _ _ _ _ _ b a new l

  open_ok : (i t : ℕ) (o : Order) {x : Opening} → Narrow o → Opens k.station k.slab i t (allowed o) (requested o) x
      → CatalogueOk (record { station = x.after; slab = x.slab }) (open_order i t o (opened_with x.answer x.slab) ∷ cs)
  open_ok i t o nw (opens_not g) = b
  open_ok i t o nw (opens_new f l a e s) =
      let ps = k.station.partners in
      let p = at ps i in
      let z = asked_size o p.next a nw s in
      let m = as_many ps k.slab _ _ _ _ b in
      let few = b.few in
      let bytes = bytes_of (asked p.next (requested o)) in
      let y = b.balance in
      let q = asking k.station.timing t (requested o) (length bytes) p in
      let u = summed_up _ _ _ _ _ _ b i q l refl (opening p.next o) (length_push (waits (moves i cs)) p.next ∙ add-one (length (waits (moves i cs)))) in
      books_moved _ _ _ _ _ _ b i q l refl
      (rowed k.slab i bytes) (count_opened k.station.counts) (count_opened (tally cs)) (opening p.next o)
      (open_pair k.slab i p (moves i cs) (b.pairs i) k.station.timing t o (omega arith) f e s a nw)
      (λ j d. pair_row k.slab i j bytes d (omega arith) (omega arith) f (at ps j) (moves j cs) (b.pairs j))
      (ap count_opened b.counted) (omega arith)

  poll_ok : (i t : ℕ) {x : Polling} → Polls k.station i t x → CatalogueOk (record { station = x.after; slab = k.slab }) (poll i t (polled_with x.answer k.slab) ∷ cs)
  poll_ok i t (polls_not g) = b
  poll_ok i t polls_rests = b
  poll_ok i t (polls_again w l e) =
      let p = at k.station.partners i in
      books_stayed _ _ _ _ _ _ b i (with_waiting p (longer t w)) l refl
      (count_repeated k.station.counts) (count_repeated (tally cs)) (again_pair k.slab i p (moves i cs) w (b.pairs i) e t) (ap count_repeated b.counted) b.balance
  poll_ok i t (polls_fails w l e) =
      let p = at k.station.partners i in
      books_settled _ _ _ _ _ _ b i (freed p) l refl (count_failed k.station.counts) (count_failed (tally cs)) w e refl failing
      (fail_pair k.slab i p (moves i cs) w (b.pairs i) e) (ap count_failed b.counted) refl (omega arith)

  withdraw_ok : (i : ℕ) {x : Withdrawing} → Withdraws k.station i x → CatalogueOk (record { station = x.after; slab = k.slab }) (withdraw i x.answer ∷ cs)
  withdraw_ok i (withdraws_nobody l) = b
  withdraw_ok i (withdraws_none l e) = b
  withdraw_ok i (withdraws_done w l e) =
      let p = at k.station.partners i in
      books_settled _ _ _ _ _ _ b i (freed p) l refl (count_withdrawn k.station.counts) (count_withdrawn (tally cs)) w e refl withdrawing
      (withdraw_pair k.slab i p (moves i cs) w (b.pairs i) e) (ap count_withdrawn b.counted) refl (omega arith)

  -- the partner that an address is
  pub placed : (f : ℕ) → partner_at k.station.partners f ≡ place_of f (enlisted cs)
  placed f = place_at k.station.partners f ∙ ap (place_of f) b.where_to

  receive_ok : (f : ℕ) (q : List ℕ) {r : Result Message Refusal} {x : Receiving} → Receives k.station f r x
      → CatalogueOk (record { station = x.after; slab = k.slab }) (receive f q x.answer ∷ cs)
  receive_ok f q (receives_not g) = b
  receive_ok f q (receives_ok m w l e a d) =
      let i = partner_at k.station.partners f in
      let p = at k.station.partners i in
      let z = placed f in
      rw (← z)
      (books_settled _ _ _ _ _ _ b i (freed p) l refl (count_answered k.station.counts) (count_answered (tally cs)) w e refl (answering m)
      (answer_pair k.slab i p (moves i cs) w (b.pairs i) e m a.number) (ap count_answered b.counted) refl (omega arith))

-- each call was answered as the catalogue answers
abbrev pub CatalogueRun : Catalogue → List CatalogueCall → Type 0
CatalogueRun k [] = Unit {0}
CatalogueRun k (x ∷ cs) = CatalogueRun k cs × CatalogueAnswers (catalogue_after k cs) x

call_ok : (k : Catalogue) (cs : List CatalogueCall) → CatalogueOk k cs → (x : CatalogueCall) → CatalogueAnswers k x → CatalogueOk (catalogue_next k x) (x ∷ cs)
call_ok k cs b (enlist a r) h = subst (λ (q : Result ℕ Refusal). CatalogueOk (catalogue_next k (enlist a r)) (enlist a q ∷ cs)) (sym h) (enlist_ok k cs b a (enlists_view k.station a))
call_ok k cs b (open_order i t o r) h =
    subst (λ (q : Opened). CatalogueOk (catalogue_next k (open_order i t o r)) (open_order i t o q ∷ cs)) (sym h.1)
    (open_ok k cs b i t o h.0 (opens_view k.station k.slab i t (allowed o) (requested o)))
call_ok k cs b (poll i t r) h = subst (λ (q : Polled). CatalogueOk (catalogue_next k (poll i t r)) (poll i t q ∷ cs)) (sym h) (poll_ok k cs b i t (polls_view k.station i t))
call_ok k cs b (withdraw i r) h = subst (λ (q : Result ℕ Refusal). CatalogueOk (catalogue_next k (withdraw i r)) (withdraw i q ∷ cs)) (sym h) (withdraw_ok k cs b i (withdraws_view k.station i))
call_ok k cs b (receive f p r) h = subst (λ (q : Result Message Refusal). CatalogueOk (catalogue_next k (receive f p r)) (receive f p q ∷ cs)) (sym h) (receive_ok k cs b f p (receives_view k.station f p))
call_ok k cs b (discover d p) h = b

-- a catalogue that was just made
abbrev pub new_catalogue : Timing → List ℕ → Catalogue
new_catalogue t slab = record { station = new_station t; slab = slab }

new_pair : (slab : List ℕ) (j : ℕ) → Pair slab j (newcomer 0) []
new_pair slab j = record { fresh = λ n. grind (arith, nat_tests); once = λ n. refl; below = tt; rise = tt; settles = tt; wait = refl }

pub books_of : (t : Timing) (slab : List ℕ) (cs : List CatalogueCall) → CatalogueRun (new_catalogue t slab) cs → CatalogueOk (catalogue_after (new_catalogue t slab) cs) cs
books_of t slab [] h = record { where_to = refl; distinct = λ i j p q e. absurd (omega arith); few = omega arith; pairs = λ j. new_pair slab j; counted = refl; balance = refl }
books_of t slab (x ∷ cs) h = call_ok (catalogue_after (new_catalogue t slab) cs) cs (books_of t slab cs h.0) x h.1
