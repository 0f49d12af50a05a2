-- Withdrawing the transaction that waits at a partner.
use Rattle.std.specs.Prelude.{ℕ, ◌+◌, cond, Some, None, Ok, Err, Option, Result, slice_set}
use Rattle.protocol.specs.declared.refusal.Refusal.{Refusal}
use Rattle.protocol.specs.declared.refusal.Refusal.TheVariants.{Unknown, NoneWaits}
use Rattle.catalogue.specs.declared.partner.Waiting.{Waiting}
use Rattle.catalogue.specs.declared.told.Counts.{Counts}
use Rattle.catalogue.specs.Stations.{Station, freed, unknown}
use Rattle.catalogue.specs.Opening.{partner}

-- the number of the transaction or a refusal, and the catalogue afterwards
pub record Withdrawing : Type 0 where
  pub answer : Result ℕ Refusal
  pub after : Station

-- a refusal changes nothing
abbrev pub not_withdrawn : Station → Refusal → Withdrawing
not_withdrawn s reason = record { answer = Err reason; after = s }

-- one more was withdrawn
abbrev pub count_withdrawn : Counts → Counts
count_withdrawn c = record { opened = c.opened; answered = c.answered; failed = c.failed; withdrawn = c.withdrawn + 1; repeated = c.repeated }

-- the transaction of the k-th partner is settled as withdrawn; without one, the call is refused
abbrev pub withdrawn : Station → ℕ → Option Waiting → Withdrawing
withdrawn s k None = not_withdrawn s NoneWaits
withdrawn s k (Some w) = record {
  answer = Ok w.number;
  after = record { timing = s.timing; clock = s.clock; partners = slice_set s.partners k (freed (partner s k)); counts = count_withdrawn s.counts };
}

abbrev pub withdrawing : Station → ℕ → Withdrawing
withdrawing s k = cond (unknown s k) (not_withdrawn s Unknown) (withdrawn s k (partner s k).waiting)
