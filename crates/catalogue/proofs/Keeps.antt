-- What is true of every catalogue lasts over each of its calls.
use Rattle.std.proofs.Common.{◌≡◌, ℕ, ◌+◌, ◌*◌, ◌<◌, ◌≤◌, true, false, cond, leb, ◌⊎◌, List, [], ◌∷◌, ◌++◌, length, get_or, set, is_some, Some, sum_by, sym, refl, ap, ◌∙◌, subst, inl, inr, arith}
use Rattle.std.proofs.ByRecursion.{All-from_get_or, sum_by_le}
use Rattle.std.proofs.lemmas.List.{get_or-set_same, get_or-set_other, get_or_append_left, get_or_push, get_or_past, length_push, length-set, take_at}
use Rattle.std.proofs.lemmas.List.Sums.{sum_by-cons, sum_by-set, sum_by_push}
use Rattle.std.proofs.lemmas.Bool.{cases_eq, cases_lt, and_parts, or_parts, leb-true, leb-false, ltb-false}
use Rattle.std.specs.List.{refill}
use Rattle.catalogue.specs.declared.partner.Partner.{Partner}
use Rattle.catalogue.specs.declared.partner.Waiting.{Waiting}
use Rattle.catalogue.specs.declared.told.Counts.{Counts}
use Rattle.catalogue.specs.declared.timing.Timing.{Timing}
use Rattle.catalogue.specs.Stations.{Station, timely, newcomer, freed, waiting_in}
use Rattle.catalogue.specs.Opening.{partner, count_opened}
use Rattle.catalogue.specs.Polling.{spent, longer, with_waiting, count_repeated}
use Rattle.catalogue.specs.Judging.{Free, asking_with, placed}
use Rattle.catalogue.specs.Kept.{repeats_in, interval_in, numbers_of, repeats_of, settled, Fair, Sound}

-- one where a transaction waits
abbrev waits : Partner → ℕ
waits p = cond (is_some p.waiting) 1 0

waiting_sum : (ps : List Partner) → waiting_in ps ≡ sum_by waits ps
waiting_sum [] = refl
waiting_sum (p ∷ ps) = ap (λ n. waits p + n) (waiting_sum ps) ∙ sym (sum_by-cons waits p ps)

-- the timing's limits, as numbers
pub record Ranged (t : Timing) : Type 0 where
  pub least : 1000 ≤ t.first
  pub most : t.first ≤ 60000
  pub order : t.first ≤ t.longest
  pub longest : t.longest ≤ 600000
  pub few : t.repeats ≤ 20

pub ranged : (t : Timing) → timely t ≡ true → Ranged t
ranged t h =
    let a = and_parts (leb 1000 t.first) _ h in
    let b = and_parts (leb t.first 60000) _ a.1 in
    let c = and_parts (leb t.first t.longest) _ b.1 in
    let d = and_parts (leb t.longest 600000) _ c.1 in
    record {
      least = leb-true _ _ a.0;
      most = leb-true _ _ b.0;
      order = leb-true _ _ c.0;
      longest = leb-true _ _ d.0;
      few = leb-true _ _ d.1;
    }

-- the counts are far from the end of their memory
pub record Small (c : Counts) : Type 0 where
  pub opened : c.opened ≤ 1048576
  pub settled : c.answered + c.failed + c.withdrawn ≤ 1048576
  pub repeated : c.repeated ≤ 41943040

pub small : (s : Station) → Sound s → Small s.counts
small s h =
    let numbers : numbers_of s.partners ≤ length s.partners * 65536 = sum_by_le (λ p. p.next) 65536 s.partners (All-from_get_or (λ p. p.next ≤ 65536) s.partners (newcomer 0) (λ i _. (h.kept.1 i).0)) in
    let t = ranged s.timing h.kept.0.0 in
    let again : repeats_of s.partners ≤ length s.partners * 20 = sum_by_le (λ p. repeats_in p.waiting) 20 s.partners (All-from_get_or (λ p. repeats_in p.waiting ≤ 20) s.partners (newcomer 0) (λ i _. omega (arith, (h.kept.1 i).1, t.few))) in
    let few = h.few in
    let o : s.counts.opened ≤ 1048576 = omega (arith, h.kept.2.0) in
    let n : settled s.counts ≤ 1048576 = omega (arith, h.kept.2.1) in
    record { opened = o; settled = n; repeated = omega (arith, h.kept.2.2) }

-- another time
pub sound_later : (s : Station) (time : ℕ) → Sound s → time ≤ 1000000000000000 → Sound (record { timing = s.timing; clock = time; partners = s.partners; counts = s.counts })
sound_later s time h e = record { kept = ((h.kept.0.0, e), h.kept.1, h.kept.2); few = h.few }

-- a new partner
pub sound_enlisted : (s : Station) (a : ℕ) → Sound s → length s.partners < 16
    → Sound (record { timing = s.timing; clock = s.clock; partners = s.partners ++ (newcomer a ∷ []); counts = s.counts })
sound_enlisted s a h room = record {
  kept = (
    h.kept.0,
    each,
    (
      omega (arith, h.kept.2.0, sum_by_push (λ p. p.next) s.partners (newcomer a)),
      omega (arith, h.kept.2.1, waiting_sum s.partners, waiting_sum (s.partners ++ (newcomer a ∷ [])), sum_by_push waits s.partners (newcomer a)),
      omega (arith, h.kept.2.2, sum_by_push (λ p. repeats_in p.waiting) s.partners (newcomer a)),
    ),
  );
  few = omega (arith, length_push s.partners (newcomer a));
}
  where
    fresh : (b : ℕ) → Fair s.timing (newcomer b)
    fresh b = (omega arith, omega arith, omega arith)

    past : (i : ℕ) → length s.partners ≤ i → (i ≡ length s.partners) ⊎ (i ≡ length s.partners → ⊥) → Fair s.timing (get_or (s.partners ++ (newcomer a ∷ [])) i (newcomer 0))
    past i g (inl same) = subst (Fair s.timing) (sym (get_or_push s.partners (newcomer a) (newcomer 0) i (sym same))) (fresh a)
    past i g (inr other) =
        let far : length (s.partners ++ (newcomer a ∷ [])) ≤ i = omega (arith, length_push s.partners (newcomer a)) in
        subst (Fair s.timing) (sym (get_or_past (s.partners ++ (newcomer a ∷ [])) i (newcomer 0) far)) (fresh 0)

    each : (i : ℕ) → Fair s.timing (get_or (s.partners ++ (newcomer a ∷ [])) i (newcomer 0))
    each i = elim (cases_lt i (length s.partners)) [
      | inl near ↦ subst (Fair s.timing) (sym (get_or_append_left s.partners (newcomer a ∷ []) (newcomer 0) i near)) (h.kept.1 i)
      | inr far ↦ past i far (cases_eq i (length s.partners))
    ]

-- the station with another k-th partner, as a write through the slice of its partners leaves it
abbrev pub rewritten : Station → ℕ → Partner → ℕ → Counts → Station
rewritten s k q time c = record { timing = s.timing; clock = time; partners = refill (length s.partners) s.partners (set s.partners k q); counts = c }

pub rewritten_is : (s : Station) (k : ℕ) (q : Partner) (time : ℕ) (c : Counts) → rewritten s k q time c ≡ placed s k q time c
rewritten_is s k q time c = ap (λ ps. record { timing = s.timing; clock = time; partners = ps; counts = c }) (take_at (set s.partners k q) _ (length s.partners) (length-set s.partners k q))

-- what is left to show of the partner and the counts
module _ (s : Station) (k : ℕ) (h : Sound s) (l : k < length s.partners) where
  -- what a measure of the partners has grown by
  sum_set : (f : Partner → ℕ) (q : Partner) → sum_by f (set s.partners k q) + f (partner s k) ≡ sum_by f s.partners + f q
  sum_set f q = sum_by-set f s.partners k q (newcomer 0) l

  sound_rewritten : (q : Partner) (time : ℕ) (c : Counts) → time ≤ 1000000000000000 → Fair s.timing q
      → c.opened + (partner s k).next ≡ s.counts.opened + q.next
      → c.opened + settled s.counts + waits (partner s k) ≡ s.counts.opened + settled c + waits q
      → c.repeated + 20 * settled s.counts + repeats_in (partner s k).waiting ≤ s.counts.repeated + 20 * settled c + repeats_in q.waiting
      → Sound (rewritten s k q time c)
  sound_rewritten q time c e fair o b r =
      subst Sound (sym (rewritten_is s k q time c)) (record {
        kept = (
          (h.kept.0.0, e),
          each,
          (
            omega (arith, h.kept.2.0, sum_set (λ p. p.next) q),
            omega (arith, h.kept.2.1, waiting_sum s.partners, waiting_sum (set s.partners k q), sum_set waits q),
            omega (arith, h.kept.2.2, sum_set (λ p. repeats_in p.waiting) q),
          ),
        );
        few = omega (arith, h.few, length-set s.partners k q);
      })
    where
      each : (i : ℕ) → Fair s.timing (get_or (set s.partners k q) i (newcomer 0))
      each i = elim (cases_eq i k) [
        | inl same ↦ subst (Fair s.timing) (sym (ap (λ j. get_or (set s.partners k q) j (newcomer 0)) same ∙ get_or-set_same s.partners k q (newcomer 0) l)) fair
        | inr other ↦ subst (Fair s.timing) (sym (get_or-set_other s.partners k i q (newcomer 0) other)) (h.kept.1 i)
      ]

  -- a transaction waits there
  module _ (w : Waiting) (e : (partner s k).waiting ≡ Some w) where
    one : waits (partner s k) ≡ 1
    one = ap (λ x. cond (is_some x) 1 0) e

    -- its interval and its repeats are in range
    pub interval_small : w.interval ≤ 600000
    interval_small =
        let t = ranged s.timing h.kept.0.0 in
        let i : interval_in (partner s k).waiting ≡ w.interval = ap interval_in e in
        omega (arith, (h.kept.1 k).2)

    repeats_small : w.repeats ≤ 20
    repeats_small =
        let t = ranged s.timing h.kept.0.0 in
        let r : repeats_in (partner s k).waiting ≡ w.repeats = ap repeats_in e in
        omega (arith, (h.kept.1 k).1)

    pub repeats_left : spent s.timing w ≡ false → w.repeats < 20
    repeats_left g =
        let t = ranged s.timing h.kept.0.0 in
        let room : w.repeats < s.timing.repeats = leb-false _ _ (or_parts (leb s.timing.repeats w.repeats) _ g).0 in
        omega arith

    -- it is sent again
    pub sound_repeated : spent s.timing w ≡ false → Sound (rewritten s k (with_waiting (partner s k) (longer s.clock w)) s.clock (count_repeated s.counts))
    sound_repeated g =
        let parts = or_parts (leb s.timing.repeats w.repeats) _ g in
        let room : w.repeats < s.timing.repeats = leb-false _ _ parts.0 in
        let long : 2 * w.interval ≤ s.timing.longest = ltb-false _ _ parts.1 in
        let waited = one in
        let r : repeats_in (partner s k).waiting ≡ w.repeats = ap repeats_in e in
        sound_rewritten (with_waiting (partner s k) (longer s.clock w)) s.clock (count_repeated s.counts) h.kept.0.1
        ((h.kept.1 k).0, omega arith, long)
        (omega arith) (omega arith) (omega arith)

    -- it is settled, in one way or another
    pub sound_settled : (c : Counts) → c.opened ≡ s.counts.opened → c.repeated ≡ s.counts.repeated → settled c ≡ settled s.counts + 1
        → Sound (rewritten s k (freed (partner s k)) s.clock c)
    sound_settled c o r n =
        let waited = one in
        let again : repeats_in (partner s k).waiting ≤ 20 = let i : repeats_in (partner s k).waiting ≡ w.repeats = ap repeats_in e in omega (arith, repeats_small) in
        sound_rewritten (freed (partner s k)) s.clock c h.kept.0.1
        ((h.kept.1 k).0, omega arith, omega arith)
        (omega arith) (omega arith) (omega arith)

-- a transaction is opened
pub sound_opened : (s : Station) (k time : ℕ) → Sound s → Free s k time → (w : Waiting) → w.interval ≤ s.timing.longest → w.repeats ≡ 0
    → Sound (rewritten s k (asking_with w (partner s k)) time (count_opened s.counts))
sound_opened s k time h f w long fresh =
    let idle : waits (partner s k) ≡ 0 = ap (λ x. cond (is_some x) 1 0) f.none in
    let none : repeats_in (partner s k).waiting ≡ 0 = ap repeats_in f.none in
    sound_rewritten s k h f.known (asking_with w (partner s k)) time (count_opened s.counts) f.timely
    (omega (arith, f.left), omega arith, long)
    (omega arith) (omega arith) (omega arith)
