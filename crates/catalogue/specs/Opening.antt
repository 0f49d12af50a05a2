-- Opening a transaction.
use Rattle.std.specs.Prelude.{ℕ, ◌+◌, ◌*◌, Bool, cond, not, List, length, is_some, Some, Ok, Err, Result, nat_le, nat_lt, slice_index_or, slice_set}
use Rattle.protocol.specs.declared.refusal.Refusal.{Refusal}
use Rattle.protocol.specs.declared.refusal.Refusal.TheVariants.{Time, ShortMemory, Unknown, Limit, StillWaits, Exhausted}
use Rattle.packet.specs.Messages.{Content, command_of, count_of}
use Rattle.writer.specs.Bytes.{bytes_of}
use Rattle.writer.specs.Orders.{asked}
use Rattle.slab_rows.specs.Rows.{rowed}
use Rattle.slab_rows.specs.declared.place.Place.TheVariants.{Slab}
use Rattle.catalogue.specs.declared.partner.Partner.{Partner}
use Rattle.catalogue.specs.declared.told.Counts.{Counts}
use Rattle.catalogue.specs.declared.told.Sent.{Sent}
use Rattle.catalogue.specs.declared.timing.Timing.{Timing}
use Rattle.catalogue.specs.Stations.{Station, newcomer, untimely, unknown}

-- the number and the place of the packet or a refusal, and catalogue and slab afterwards
pub record Opening : Type 0 where
  pub answer : Result Sent Refusal
  pub after : Station
  pub slab : List ℕ

-- a refusal changes nothing
abbrev pub not_opened : Station → List ℕ → Refusal → Opening
not_opened s slab reason = record { answer = Err reason; after = s; slab = slab }

-- the k-th partner
abbrev pub partner : Station → ℕ → Partner
partner s k = slice_index_or s.partners k (newcomer 0)

-- the partner with a transaction that now waits, which was opened at a time with a packet of so many bytes
abbrev pub asking : Timing → ℕ → Content → ℕ → Partner → Partner
asking t time content n p = record {
  address = p.address;
  next = p.next + 1;
  waiting = Some (record {
    number = p.next;
    command = command_of content;
    count = count_of content;
    length = n;
    deadline = time + t.first;
    interval = t.first;
    repeats = 0;
  });
}

-- one more was opened
abbrev pub count_opened : Counts → Counts
count_opened c = record { opened = c.opened + 1; answered = c.answered; failed = c.failed; withdrawn = c.withdrawn; repeated = c.repeated }

-- the packet with the partner's next number goes to the front of its row
abbrev pub opened : Station → List ℕ → ℕ → ℕ → Content → List ℕ → Opening
opened s slab k time content bytes = record {
  answer = Ok (record { number = (partner s k).next; place = Slab (512 * k) (length bytes) });
  after = record {
    timing = s.timing;
    clock = time;
    partners = slice_set s.partners k (asking s.timing time content (length bytes) (partner s k));
    counts = count_opened s.counts;
  };
  slab = rowed slab k bytes;
}

-- the grounds in order; `allowed` says whether the order keeps its limits
abbrev pub opening : Station → List ℕ → ℕ → ℕ → Bool → Content → Opening
opening s slab k time allowed content =
    cond (untimely s time) (not_opened s slab Time)
    (cond (nat_lt (length slab) 8192) (not_opened s slab ShortMemory)
    (cond (unknown s k) (not_opened s slab Unknown)
    (cond (not allowed) (not_opened s slab Limit)
    (cond (is_some (partner s k).waiting) (not_opened s slab StillWaits)
    (cond (nat_le 65536 (partner s k).next) (not_opened s slab Exhausted)
    (opened s slab k time content (bytes_of (asked (partner s k).next content))))))))
