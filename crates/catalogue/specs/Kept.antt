-- What a catalogue keeps true of itself from its making on. So every count is exact, and no time or interval grows too large.
use Rattle.std.specs.Prelude.{◌≡◌, ℕ, ◌+◌, ◌*◌, ◌≤◌, true, List, length, Some, None, sum_by, Option}
use Rattle.catalogue.specs.declared.partner.Partner.{Partner}
use Rattle.catalogue.specs.declared.partner.Waiting.{Waiting}
use Rattle.catalogue.specs.declared.told.Counts.{Counts}
use Rattle.catalogue.specs.declared.timing.Timing.{Timing}
use Rattle.catalogue.specs.Stations.{Station, timely, waiting_in}
use Rattle.catalogue.specs.Opening.{partner}

-- how often the transaction that waits, if one does, was sent again
abbrev pub repeats_in : Option Waiting → ℕ
repeats_in None = 0
repeats_in (Some w) = w.repeats

-- its interval
abbrev pub interval_in : Option Waiting → ℕ
interval_in None = 0
interval_in (Some w) = w.interval

-- a partner has had at most 65,536 numbers, and its transaction keeps to the timing
abbrev pub Fair : Timing → Partner → Type 0
Fair t p = (p.next ≤ 65536) × (repeats_in p.waiting ≤ t.repeats) × (interval_in p.waiting ≤ t.longest)

-- how many transactions the partners have had
abbrev pub numbers_of : List Partner → ℕ
numbers_of ps = sum_by (λ p. p.next) ps

-- how often those that wait were sent again
abbrev pub repeats_of : List Partner → ℕ
repeats_of ps = sum_by (λ p. repeats_in p.waiting) ps

-- how many transactions were settled
abbrev pub settled : Counts → ℕ
settled c = c.answered + c.failed + c.withdrawn

-- the timing can be, and the clock too
abbrev pub Timed : Station → Type 0
Timed s = (timely s.timing ≡ true) × (s.clock ≤ 1000000000000000)

-- every transaction that was opened has a number of its own, was settled or waits, and was sent again at most 20 times
abbrev pub Counted : Counts → List Partner → Type 0
Counted c ps = (c.opened ≡ numbers_of ps) × (c.opened ≡ settled c + waiting_in ps) × (c.repeated ≤ 20 * settled c + repeats_of ps)

abbrev pub Kept : Station → Type 0
Kept s = Timed s × ((k : ℕ) → Fair s.timing (partner s k)) × Counted s.counts s.partners

-- what is true of every catalogue: it keeps that, and has at most sixteen partners
pub record Sound (s : Station) : Type 0 where
  pub kept : Kept s
  pub few : length s.partners ≤ 16
