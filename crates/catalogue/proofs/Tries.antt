-- An order that is polled at each of its deadlines: the intervals double until it is given up.
use Rattle.std.proofs.Common.{◌≡◌, ℕ, zero, suc, ◌+◌, ◌-◌, ◌*◌, ◌^◌, ◌<◌, ◌≤◌, Bool, true, false, cond, not, ◌&&◌, ◌||◌, ltb, leb, List, length, Some, Ok, sym, refl, ap, ◌∙◌, subst, inl, inr, mul_comm, mul-le-mul_left, pow-suc, mul-one, mul-add, mul_left_comm, add-one, arith, pow_pos, pow_mono}
use Rattle.std.proofs.lemmas.List.{length-set, get_or-set_same}
use Rattle.std.proofs.lemmas.Bool.{cond-true, cond-false, cond_both, cases_eq, and_left, and_right, and_from, or_from, le-ltb, lt-ltb, le-leb, lt-leb}
use Rattle.std.proofs.lemmas.Bool.Decides.{nat_tests}
use Rattle.packet.specs.Messages.{Content, command_of, count_of}
use Rattle.slab_rows.specs.declared.place.Place.TheVariants.{Slab}
use Rattle.catalogue.specs.declared.partner.Waiting.{Waiting}
use Rattle.catalogue.specs.declared.told.Poll.{Poll}
use Rattle.catalogue.specs.declared.told.Poll.TheVariants.{Again, Failed}
use Rattle.catalogue.specs.declared.told.Sent.{Sent}
use Rattle.catalogue.specs.declared.timing.Timing.{Timing}
use Rattle.catalogue.specs.Stations.{Station, newcomer, untimely, unknown}
use Rattle.catalogue.specs.Opening.{partner, asking, opening}
use Rattle.catalogue.specs.Polling.{longer, with_waiting, spent, sent_again, due, when_due, polling}
use Rattle.catalogue.specs.Backoff.{poll_time, sends, first_silent, last_poll, deadline_in, deadline, polled_at_deadlines, PollAt, BacksOff, GivesUp}
use Rattle.catalogue.proofs.Openings.{opening_accepted}

-- twice the interval
pub doubles : (a j : ℕ) → a * 2 ^ (j + 1) ≡ 2 * (a * 2 ^ j)
doubles a j = ap (λ n. a * n) (ap (λ n. 2 ^ n) (add-one j) ∙ pow-suc 2 j ∙ mul_comm (2 ^ j) 2) ∙ mul_left_comm a 2 (2 ^ j)

-- all intervals together are twice the last but for the first
pub sums : (a j : ℕ) → a * (2 ^ (j + 1) - 1) + a ≡ a * 2 ^ (j + 1)
sums a j =
    let p : 0 < 2 ^ (j + 1) = pow_pos (j + 1) in
    let e : a * (2 ^ (j + 1) - 1 + 1) ≡ a * (2 ^ (j + 1) - 1) + a * 1 = mul-add a (2 ^ (j + 1) - 1) 1 in
    let n : 2 ^ (j + 1) - 1 + 1 ≡ 2 ^ (j + 1) = omega arith in
    let one = mul-one a in
    omega (arith, ap (λ x. a * x) n)

-- the next poll comes after the doubled interval
pub next_time : (t : Timing) (time j : ℕ) → poll_time t time (j + 1) ≡ poll_time t time j + 2 * (t.first * 2 ^ j)
next_time t time j = omega (arith, sums t.first j, sums t.first (j + 1), doubles t.first j, doubles t.first (j + 1))

pub first_time : (t : Timing) (time : ℕ) → poll_time t time 0 ≡ time + t.first
first_time t time = omega arith

-- the tests of a poll are those of the law
opposite : (r j x m : ℕ) → (leb r j || ltb m x) ≡ not (ltb j r && leb x m)
opposite r j x m = grind (arith, nat_tests)

-- before the j-th poll
pub record Stage (t : Timing) (time k : ℕ) (sent : Sent) (j : ℕ) (s : Station) : Type 0 where
  pub timing : s.timing ≡ t
  pub clock : s.clock ≤ poll_time t time j
  pub known : k < length s.partners
  pub w : Waiting
  pub waits : (partner s k).waiting ≡ Some w
  pub deadline : w.deadline ≡ poll_time t time j
  pub interval : w.interval ≡ t.first * 2 ^ j
  pub repeats : w.repeats ≡ j
  pub number : w.number ≡ sent.number
  pub place : Slab (512 * k) w.length ≡ sent.place

-- an order that is due
polling_due : (s : Station) (k time : ℕ) (w : Waiting) → s.clock ≤ time → time ≤ 1000000000000000 → k < length s.partners → (partner s k).waiting ≡ Some w → w.deadline ≤ time
    → polling s k time ≡ due s k time w
polling_due s k time w c l h e d =
    let timely : untimely s time ≡ false = or_from _ _ (le-ltb time s.clock c) (le-ltb 1000000000000000 time l) in
    let there : unknown s k ≡ false = lt-leb (length s.partners) k h in
    let now : ltb time w.deadline ≡ false = le-ltb time w.deadline d in
    cond-false (untimely s time) _ _ timely ∙ cond-false (unknown s k) _ _ there ∙ ap (when_due s k time) e ∙ cond-false (ltb time w.deadline) _ _ now

module _ (t : Timing) (time k : ℕ) (sent : Sent) (j : ℕ) (s : Station) (g : Stage t time k sent j s) (l : poll_time t time j ≤ 1000000000000000) where
  now_due : polling s k (poll_time t time j) ≡ due s k (poll_time t time j) g.w
  now_due = polling_due s k (poll_time t time j) g.w g.clock l g.known g.waits (omega (arith, g.deadline))

  spent_is : spent s.timing g.w ≡ not (sends t j)
  spent_is =
      let i : 2 * g.w.interval ≡ t.first * 2 ^ (j + 1) = omega (arith, g.interval, doubles t.first j) in
      ap (λ x. spent x g.w) g.timing ∙ ap (λ x. leb t.repeats x || ltb t.longest (2 * g.w.interval)) g.repeats ∙ ap (λ x. leb t.repeats j || ltb t.longest x) i
      ∙ opposite t.repeats j (t.first * 2 ^ (j + 1)) t.longest

  pub due_at : deadline s k ≡ poll_time t time j
  due_at = ap (λ x. deadline_in x) g.waits ∙ g.deadline

  -- it is given up
  pub failed_at : sends t j ≡ false → (polling s k (poll_time t time j)).answer ≡ Ok (Failed sent.number)
  failed_at f =
      let x = now_due ∙ cond-true (spent s.timing g.w) _ _ (spent_is ∙ ap not f) in
      ap (λ o. o.answer) x ∙ ap (λ n. Ok (Failed n)) g.number

  again : sends t j ≡ true → polling s k (poll_time t time j) ≡ sent_again s k (poll_time t time j) g.w
  again f = now_due ∙ cond-false (spent s.timing g.w) _ _ (spent_is ∙ ap not f)

  -- it is sent again
  pub again_at : sends t j ≡ true → (polling s k (poll_time t time j)).answer ≡ Ok (Again sent.place)
  again_at f = ap (λ o. o.answer) (again f) ∙ ap (λ p. Ok (Again p)) g.place

  -- and the next poll is the one behind
  pub next_stage : sends t j ≡ true → Stage t time k sent (j + 1) (polling s k (poll_time t time j)).after
  next_stage f = subst (Stage t time k sent (j + 1)) (sym (ap (λ o. o.after) (again f))) (record {
    timing = g.timing;
    clock = omega (arith, next_time t time j);
    known = subst (λ n. k < n) (sym (length-set s.partners k (with_waiting (partner s k) (longer (poll_time t time j) g.w)))) g.known;
    w = longer (poll_time t time j) g.w;
    waits = ap (λ p. p.waiting) (get_or-set_same s.partners k (with_waiting (partner s k) (longer (poll_time t time j) g.w)) (newcomer 0) g.known);
    deadline = omega (arith, next_time t time j, g.interval);
    interval = omega (arith, g.interval, doubles t.first j);
    repeats = ap (λ n. n + 1) g.repeats;
    number = g.number;
    place = g.place;
  })

-- polls come one after the other
pub later : (t : Timing) (time i j : ℕ) → i ≤ j → poll_time t time i ≤ poll_time t time j
later t time i j h =
    let p : 2 ^ (i + 1) ≤ 2 ^ (j + 1) = pow_mono {i = i + 1} {j = j + 1} (omega arith) in
    let q : 2 ^ (i + 1) - 1 ≤ 2 ^ (j + 1) - 1 = omega arith in
    omega (arith, mul-le-mul_left t.first q)

module _ (s : Station) (slab : List ℕ) (k time : ℕ) (allowed : Bool) (content : Content) (sent : Sent) (o : (opening s slab k time allowed content).answer ≡ Ok sent) where
  abbrev start : Station
  start = (opening s slab k time allowed content).after

  -- before the first poll
  first_stage : Stage s.timing time k sent 0 start
  first_stage =
      let a = opening_accepted s slab k time allowed content sent o in
      let n = a.1.0 in
      let p = asking s.timing time content n (partner s k) in
      subst (Stage s.timing time k sent 0) (sym a.1.1) (record {
        timing = refl;
        clock = omega (arith, first_time s.timing time);
        known = subst (λ x. k < x) (sym (length-set s.partners k p)) a.0;
        w = record { number = (partner s k).next; command = command_of content; count = count_of content; length = n; deadline = time + s.timing.first; interval = s.timing.first; repeats = 0 };
        waits = ap (λ x. x.waiting) (get_or-set_same s.partners k p (newcomer 0) a.0);
        deadline = sym (first_time s.timing time);
        interval = omega arith;
        repeats = refl;
        number = sym (ap (λ x. x.number) a.1.2);
        place = sym (ap (λ x. x.place) a.1.2);
      })

  stages : (j : ℕ) → ((i : ℕ) → i < j → sends s.timing i ≡ true) → poll_time s.timing time j ≤ 1000000000000000 → Stage s.timing time k sent j (polled_at_deadlines start k j)
  stages zero h l = first_stage
  stages (suc j) h l =
      let before : poll_time s.timing time j ≤ 1000000000000000 = omega (arith, later s.timing time j (suc j) (omega arith)) in
      let g = stages j (λ i b. h i (omega arith)) before in
      let n = next_stage s.timing time k sent j (polled_at_deadlines start k j) g before (h j (omega arith)) in
      let m = subst (λ x. Stage s.timing time k sent (j + 1) (polling (polled_at_deadlines start k j) k x).after) (sym (due_at s.timing time k sent j (polled_at_deadlines start k j) g before)) n in
      subst (λ x. Stage s.timing time k sent x (polled_at_deadlines start k (suc j))) (add-one j) m

  pub backs : (j : ℕ) → ((i : ℕ) → i < j → sends s.timing i ≡ true) → poll_time s.timing time j ≤ 1000000000000000
      → PollAt start k j (poll_time s.timing time j) (cond (sends s.timing j) (Again sent.place) (Failed sent.number))
  backs j h l =
      let g = stages j h l in
      record {
        due = due_at s.timing time k sent j (polled_at_deadlines start k j) g l;
        says = cond_both (sends s.timing j) (Again sent.place) (Failed sent.number) (λ x. (polling (polled_at_deadlines start k j) k (poll_time s.timing time j)).answer ≡ Ok x)
            (again_at s.timing time k sent j (polled_at_deadlines start k j) g l)
            (failed_at s.timing time k sent j (polled_at_deadlines start k j) g l);
      }

pub backs_off : (s : Station) (time : ℕ) → BacksOff s time
backs_off s time slab k allowed content sent o j h l = backs s slab k time allowed content sent o j h l

-- every poll before the first that does not send the packet again does
silent_before : (t : Timing) (n j i : ℕ) → j ≤ i → i < first_silent t j n → sends t i ≡ true
silent_before t zero j i h b = absurd (omega arith)
silent_before t (suc n) j i h b = by_test (sends t j) refl (silent_before t n (j + 1) i)
  where
    by_test : (x : Bool) → sends t j ≡ x → (j + 1 ≤ i → i < first_silent t (j + 1) n → sends t i ≡ true) → sends t i ≡ true
    by_test false e rest = let f : first_silent t j (suc n) ≡ j = cond-false (sends t j) _ _ e in absurd (omega arith)
    by_test true e rest =
        let f : first_silent t j (suc n) ≡ first_silent t (j + 1) n = cond-true (sends t j) _ _ e in
        elim (cases_eq i j) [ inl same ↦ ap (sends t) same ∙ e | inr other ↦ rest (omega arith) (omega arith) ]

-- and that one does not
silent_at : (t : Timing) (n j : ℕ) → sends t (j + n) ≡ false → sends t (first_silent t j n) ≡ false
silent_at t zero j h = let e : j + 0 ≡ j = omega arith in subst (λ x. sends t x ≡ false) e h
silent_at t (suc n) j h = by_test (sends t j) refl (silent_at t n (j + 1))
  where
    by_test : (x : Bool) → sends t j ≡ x → (sends t (j + 1 + n) ≡ false → sends t (first_silent t (j + 1) n) ≡ false) → sends t (first_silent t j (suc n)) ≡ false
    by_test false e rest = let f : first_silent t j (suc n) ≡ j = cond-false (sends t j) _ _ e in ap (sends t) f ∙ e
    by_test true e rest =
        let f : first_silent t j (suc n) ≡ first_silent t (j + 1) n = cond-true (sends t j) _ _ e in
        let g : j + suc n ≡ j + 1 + n = omega arith in
        ap (sends t) f ∙ rest (subst (λ x. sends t x ≡ false) g h)

pub last_silent : (t : Timing) → sends t (last_poll t) ≡ false
last_silent t =
    let e : 0 + t.repeats ≡ t.repeats = omega arith in
    let h : sends t (0 + t.repeats) ≡ false = and_left _ _ (le-ltb (0 + t.repeats) t.repeats (omega arith)) in
    silent_at t t.repeats 0 h

pub gives_up : (s : Station) (time : ℕ) → GivesUp s time
gives_up s time slab k allowed content sent o l =
    let t = s.timing in
    let passed : (i : ℕ) → i < last_poll t → sends t i ≡ true = λ i b. silent_before t t.repeats 0 i (omega arith) b in (
      (λ j b. said j (Again sent.place) (backs s slab k time allowed content sent o j (λ i c. passed i (omega arith)) (omega (arith, later t time j (last_poll t) (omega arith)))) (cond-true (sends t j) _ _ (passed j b))),
      said (last_poll t) (Failed sent.number) (backs s slab k time allowed content sent o (last_poll t) passed l) (cond-false (sends t (last_poll t)) _ _ (last_silent t)),
    )
  where
    said : (j : ℕ) (x : Poll) → PollAt (opening s slab k time allowed content).after k j (poll_time s.timing time j) (cond (sends s.timing j) (Again sent.place) (Failed sent.number))
        → cond (sends s.timing j) (Again sent.place) (Failed sent.number) ≡ x → PollAt (opening s slab k time allowed content).after k j (poll_time s.timing time j) x
    said j x p e = subst (PollAt (opening s slab k time allowed content).after k j (poll_time s.timing time j)) e p

-- the search for the last poll, one poll on and where it ends
pub sends_still : (t : Timing) (j : ℕ) → j < t.repeats → t.first * 2 ^ (j + 1) ≤ t.longest → sends t j ≡ true
sends_still t j h l = and_from _ _ (lt-ltb j t.repeats h) (le-leb (t.first * 2 ^ (j + 1)) t.longest l)

pub silent_more : (t : Timing) (j : ℕ) → j < t.repeats → t.first * 2 ^ (j + 1) ≤ t.longest → first_silent t j (t.repeats - j) ≡ first_silent t (j + 1) (t.repeats - (j + 1))
silent_more t j h l =
    let e : t.repeats - j ≡ suc (t.repeats - (j + 1)) = omega arith in
    ap (first_silent t j) e ∙ cond-true (sends t j) _ _ (sends_still t j h l)

pub silent_done : (t : Timing) (j : ℕ) → t.longest < t.first * 2 ^ (j + 1) → (n : ℕ) → first_silent t j n ≡ j
silent_done t j l zero = refl
silent_done t j l (suc n) = cond-false (sends t j) _ _ (and_right _ _ (lt-leb (t.first * 2 ^ (j + 1)) t.longest l))
