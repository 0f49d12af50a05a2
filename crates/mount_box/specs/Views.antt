-- How what the code holds is seen.
use Rattle.std.specs.Prelude.{◌≡◌, ℕ, List, Option, Result, slice_index_or}
use Rattle.protocol.specs.declared.refusal.Refusal.{Refusal}
use Rattle.slab_rows.specs.declared.place.Place.{Place}
use Rattle.store.specs.Contents.{Contents}
use Rattle.mount_box.specs.declared.mount.MountBox.{MountBox}
use Rattle.mount_box.specs.declared.senders.SenderRecord.{SenderRecord}
use Rattle.mount_box.specs.declared.standing.Standing.{Standing}
use Rattle.mount_box.specs.declared.standing.Standing.TheVariants.{Repeated, Due}
use Rattle.mount_box.specs.Senders.{blank, length_of, repeated, due}
use Rattle.mount_box.specs.Senders as senders
use Rattle.mount_box.specs.Handling.{Box, Handling}

-- how a request stands
abbrev pub standing_of : Standing → senders.Standing
standing_of (Repeated k n) = repeated k
standing_of (Due k) = due k

-- of a repeat, the length told is that of the record
abbrev pub KeptAt : List (Option SenderRecord) → Standing → Type 0
KeptAt records (Repeated k n) = n ≡ length_of (slice_index_or records k blank)
KeptAt records (Due k) = Unit {0}

-- the record that it stands by
abbrev pub record_of : senders.Standing → ℕ
record_of (repeated k) = k
record_of (due k) = k

-- a box with slab and reply buffer, its store by what it means
abbrev pub box_of : {S : Type 0} → (S → Contents) → MountBox S → List ℕ → List ℕ → Box
box_of meaning b slab reply = record { records = b.senders.records; slab = slab; reply = reply; contents = meaning b.store }

-- what a call answered, and the box afterwards
abbrev pub outcome : Result Place Refusal → Box → Handling
outcome r after = record { answer = r; after = after }
