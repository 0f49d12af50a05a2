-- Polling a partner: nothing is due, the packet is sent again, or the transaction is given up.
use Rattle.std.specs.Prelude.{ℕ, ◌+◌, ◌*◌, Bool, cond, ◌||◌, Some, None, Ok, Err, Option, Result, nat_le, nat_lt, slice_set}
use Rattle.protocol.specs.declared.refusal.Refusal.{Refusal}
use Rattle.protocol.specs.declared.refusal.Refusal.TheVariants.{Time, Unknown}
use Rattle.slab_rows.specs.declared.place.Place.TheVariants.{Slab}
use Rattle.catalogue.specs.declared.partner.Partner.{Partner}
use Rattle.catalogue.specs.declared.partner.Waiting.{Waiting}
use Rattle.catalogue.specs.declared.told.Counts.{Counts}
use Rattle.catalogue.specs.declared.told.Poll.{Poll}
use Rattle.catalogue.specs.declared.told.Poll.TheVariants.{NothingDue, Again, Failed}
use Rattle.catalogue.specs.declared.timing.Timing.{Timing}
use Rattle.catalogue.specs.Stations.{Station, freed, untimely, unknown}
use Rattle.catalogue.specs.Opening.{partner}

-- what polling tells, and the catalogue afterwards
pub record Polling : Type 0 where
  pub answer : Result Poll Refusal
  pub after : Station

-- a refusal changes nothing
abbrev pub not_polled : Station → Refusal → Polling
not_polled s reason = record { answer = Err reason; after = s }

-- the clock is the time, and else nothing changes
abbrev pub at_rest : Station → ℕ → Polling
at_rest s time = record { answer = Ok NothingDue; after = record { timing = s.timing; clock = time; partners = s.partners; counts = s.counts } }

-- the transaction is sent again: from this time on, the doubled interval
abbrev pub longer : ℕ → Waiting → Waiting
longer time w = record {
  number = w.number;
  command = w.command;
  count = w.count;
  length = w.length;
  deadline = time + 2 * w.interval;
  interval = 2 * w.interval;
  repeats = w.repeats + 1;
}

abbrev pub with_waiting : Partner → Waiting → Partner
with_waiting p w = record { address = p.address; next = p.next; waiting = Some w }

-- one more was sent again
abbrev pub count_repeated : Counts → Counts
count_repeated c = record { opened = c.opened; answered = c.answered; failed = c.failed; withdrawn = c.withdrawn; repeated = c.repeated + 1 }

-- one more failed
abbrev pub count_failed : Counts → Counts
count_failed c = record { opened = c.opened; answered = c.answered; failed = c.failed + 1; withdrawn = c.withdrawn; repeated = c.repeated }

abbrev pub sent_again : Station → ℕ → ℕ → Waiting → Polling
sent_again s k time w = record {
  answer = Ok (Again (Slab (512 * k) w.length));
  after = record { timing = s.timing; clock = time; partners = slice_set s.partners k (with_waiting (partner s k) (longer time w)); counts = count_repeated s.counts };
}

abbrev pub given_up : Station → ℕ → ℕ → Waiting → Polling
given_up s k time w = record {
  answer = Ok (Failed w.number);
  after = record { timing = s.timing; clock = time; partners = slice_set s.partners k (freed (partner s k)); counts = count_failed s.counts };
}

-- all repeats were made, or twice the interval is above the longest
abbrev pub spent : Timing → Waiting → Bool
spent t w = nat_le t.repeats w.repeats || nat_lt t.longest (2 * w.interval)

-- what comes of a transaction that is due
abbrev pub due : Station → ℕ → ℕ → Waiting → Polling
due s k time w = cond (spent s.timing w) (given_up s k time w) (sent_again s k time w)

-- from the deadline on
abbrev pub when_due : Station → ℕ → ℕ → Option Waiting → Polling
when_due s k time None = at_rest s time
when_due s k time (Some w) = cond (nat_lt time w.deadline) (at_rest s time) (due s k time w)

abbrev pub polling : Station → ℕ → ℕ → Polling
polling s k time =
    cond (untimely s time) (not_polled s Time)
    (cond (unknown s k) (not_polled s Unknown)
    (when_due s k time (partner s k).waiting))
