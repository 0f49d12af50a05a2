-- The sender records of a box, and how a request stands by them.
--     standing records sender number   a repeat, due to be carried out, or refused
use Rattle.std.specs.Prelude.{ℕ, Bool, false, cond, List, is_none, Some, None, Ok, Err, Option, Result, ◌==◌, nat_lt, slice_index_or}
use Rattle.protocol.specs.declared.refusal.Refusal.{Refusal}
use Rattle.protocol.specs.declared.refusal.Refusal.TheVariants.{Unknown, OldNumber}
use Rattle.slab_rows.specs.Searches.{first_by}
use Rattle.mount_box.specs.declared.senders.SenderRecord.{SenderRecord}

-- an empty record
abbrev pub blank : Option SenderRecord
blank = None

-- the record of a sender with its newest number, and the length of the reply to that
abbrev pub noted : ℕ → ℕ → ℕ → Option SenderRecord
noted sender number n = Some (record { address = sender; newest = number; length = n })

-- the record is that of this sender
abbrev pub is_of : ℕ → Option SenderRecord → Bool
is_of sender None = false
is_of sender (Some r) = r.address == sender

-- the record is empty
abbrev pub is_empty : Option SenderRecord → Bool
is_empty r = is_none r

-- the newest number that a record has: 0 for an empty one
abbrev pub newest_of : Option SenderRecord → ℕ
newest_of None = 0
newest_of (Some r) = r.newest

-- the length of the reply to that
abbrev pub length_of : Option SenderRecord → ℕ
length_of None = 0
length_of (Some r) = r.length

-- how a request stands: the number again that record k has, or due to be carried out for record k
pub data Standing : Type 0 where
  repeated : ℕ → Standing
  due : ℕ → Standing

-- by the newest number of record k: the same is a repeat, a lower one is refused, a higher one is due
abbrev pub by_number : ℕ → ℕ → ℕ → Result Standing Refusal
by_number k newest number = cond (number == newest) (Ok (repeated k)) (cond (nat_lt number newest) (Err OldNumber) (Ok (due k)))

-- for the record of a known sender by its newest number; of a new one, for the lowest empty record, if there is one
abbrev pub standing : List (Option SenderRecord) → ℕ → ℕ → Result Standing Refusal
standing records sender number =
    cond (nat_lt (first_by (is_of sender) records) 16)
    (by_number (first_by (is_of sender) records) (newest_of (slice_index_or records (first_by (is_of sender) records) blank)) number)
    (cond (nat_lt (first_by is_empty records) 16) (Ok (due (first_by is_empty records))) (Err Unknown))
