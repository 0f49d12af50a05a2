-- What the calls of a catalogue are made of: the grounds for turning one down, and the change of one partner.
use Rattle.std.specs.Prelude.{◌≡◌, ℕ, ◌+◌, ◌<◌, ◌≤◌, Bool, cond, not, length, is_some, Some, None, Ok, Err, Result, nat_le, nat_lt, slice_set}
use Rattle.protocol.specs.declared.refusal.Refusal.{Refusal}
use Rattle.protocol.specs.declared.refusal.Refusal.TheVariants.{Time, ShortMemory, Unknown, Limit, StillWaits, Exhausted}
use Rattle.catalogue.specs.declared.partner.Partner.{Partner}
use Rattle.catalogue.specs.declared.partner.Waiting.{Waiting}
use Rattle.catalogue.specs.declared.told.Counts.{Counts}
use Rattle.catalogue.specs.Stations.{Station, untimely, unknown}
use Rattle.catalogue.specs.Opening.{partner}

-- a time that the station accepts
abbrev pub timed : Station → ℕ → Result (Unit {0}) Refusal
timed s time = cond (untimely s time) (Err Time) (Ok tt)

-- the k-th partner, if there is one
abbrev pub known : Station → ℕ → Result Partner Refusal
known s k = cond (unknown s k) (Err Unknown) (Ok (partner s k))

-- the number of the transaction that can be opened with the k-th partner
abbrev pub judged : Station → ℕ → ℕ → ℕ → Bool → Result ℕ Refusal
judged s memory k time allowed =
    cond (untimely s time) (Err Time)
    (cond (nat_lt memory 8192) (Err ShortMemory)
    (cond (unknown s k) (Err Unknown)
    (cond (not allowed) (Err Limit)
    (cond (is_some (partner s k).waiting) (Err StillWaits)
    (cond (nat_le 65536 (partner s k).next) (Err Exhausted)
    (Ok (partner s k).next))))))

-- a transaction can be opened with the k-th partner
pub record Free (s : Station) (k time : ℕ) : Type 0 where
  pub timely : time ≤ 1000000000000000
  pub known : k < length s.partners
  pub none : (partner s k).waiting ≡ None
  pub left : (partner s k).next < 65536

-- the partner whose next transaction waits, so
abbrev pub asking_with : Waiting → Partner → Partner
asking_with w p = record { address = p.address; next = p.next + 1; waiting = Some w }

-- the station with another k-th partner, at another time and with other counts
abbrev pub placed : Station → ℕ → Partner → ℕ → Counts → Station
placed s k p time c = record { timing = s.timing; clock = time; partners = slice_set s.partners k p; counts = c }
