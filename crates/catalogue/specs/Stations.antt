-- What a catalogue holds, its making, and enlisting.
use Rattle.std.specs.Prelude.{ℕ, ◌+◌, Bool, cond, ◌&&◌, ◌||◌, List, [], ◌∷◌, ◌++◌, length, is_some, None, Ok, Err, Result, ◌==◌, nat_le, nat_lt}
use Rattle.protocol.specs.declared.refusal.Refusal.{Refusal}
use Rattle.protocol.specs.declared.refusal.Refusal.TheVariants.{Limit, Enlisted}
use Rattle.slab_rows.specs.Searches.{first_by}
use Rattle.catalogue.specs.declared.partner.Partner.{Partner}
use Rattle.catalogue.specs.declared.timing.Timing.{Timing}
use Rattle.catalogue.specs.declared.told.Counts.{Counts}

-- a catalogue apart from its slab: its timing, the latest time that it accepted, its partners in the order of enlisting,
-- and its counts
pub record Station : Type 0 where
  pub timing : Timing
  pub clock : ℕ
  pub partners : List Partner
  pub counts : Counts

-- nothing was counted yet
abbrev pub none_counted : Counts
none_counted = record { opened = 0; answered = 0; failed = 0; withdrawn = 0; repeated = 0 }

-- a catalogue that was just made
abbrev pub new_station : Timing → Station
new_station t = record { timing = t; clock = 0; partners = []; counts = none_counted }

-- the first interval is 1,000 to 60,000, the longest that to 600,000, and there are 0 to 20 repeats
abbrev pub timely : Timing → Bool
timely t = nat_le 1000 t.first && (nat_le t.first 60000 && (nat_le t.first t.longest && (nat_le t.longest 600000 && nat_le t.repeats 20)))

abbrev pub making : Timing → Result Station Refusal
making t = cond (timely t) (Ok (new_station t)) (Err Limit)

-- a partner that was just enlisted
abbrev pub newcomer : ℕ → Partner
newcomer a = record { address = a; next = 0; waiting = None }

-- the partner's transaction is settled
abbrev pub freed : Partner → Partner
freed p = record { address = p.address; next = p.next; waiting = None }

-- the partner has this address
abbrev pub at_address : ℕ → Partner → Bool
at_address a p = p.address == a

-- which partner has this address: the number of partners where none has
abbrev pub partner_at : List Partner → ℕ → ℕ
partner_at ps a = first_by (at_address a) ps

-- the number of the new partner or a refusal, and the catalogue afterwards
pub record Enlisting : Type 0 where
  pub answer : Result ℕ Refusal
  pub after : Station

-- refused where the address is enlisted already, or sixteen are
abbrev pub enlisting : Station → ℕ → Enlisting
enlisting s a =
    cond (nat_lt (partner_at s.partners a) (length s.partners) || nat_le 16 (length s.partners))
    (record { answer = Err Enlisted; after = s })
    (record {
      answer = Ok (length s.partners);
      after = record { timing = s.timing; clock = s.clock; partners = s.partners ++ (newcomer a ∷ []); counts = s.counts };
    })

-- the time is below one that was accepted, or above 10^15
abbrev pub untimely : Station → ℕ → Bool
untimely s time = nat_lt time s.clock || nat_lt 1000000000000000 time

-- there is no such partner
abbrev pub unknown : Station → ℕ → Bool
unknown s k = nat_le (length s.partners) k

-- how many partners have a transaction that waits
abbrev pub waiting_in : List Partner → ℕ
waiting_in [] = 0
waiting_in (p ∷ ps) = cond (is_some p.waiting) 1 0 + waiting_in ps
