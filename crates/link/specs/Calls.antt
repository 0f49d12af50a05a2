-- What happens in a link: the calls at its stations, each with what it was handed and answered. A history is a list of
-- events, the newest first.
use Rattle.std.specs.Prelude.{◌≡◌, ℕ, ◌<◌, Bool, cond, ◌⊎◌, List, [], ◌∷◌, map, Ok, Err, Result, ◌==◌}
use Rattle.std.specs.List.{AllByRecursion}
use Rattle.protocol.specs.declared.kind.Kind.{Kind}
use Rattle.protocol.specs.declared.refusal.Refusal.{Refusal}
use Rattle.packet.specs.Messages.{Message, Content, read_request, write_request}
use Rattle.writer.specs.Orders.{counted, changes_allowed, change_of}
use Rattle.writer.specs.declared.change.Change.{Change}
use Rattle.slab_rows.specs.Places.{part_of}
use Rattle.slab_rows.specs.declared.place.Place.{Place}
use Rattle.catalogue.specs.declared.told.Sent.{Sent}
use Rattle.catalogue.specs.declared.told.Poll.{Poll}
use Rattle.catalogue.specs.declared.told.Poll.TheVariants.{NothingDue, Again, Failed}

-- what a catalogue is to ask: to read at these indices, or to make these changes
pub data Order : Type 0 where
  reads : List ℕ → Order
  writes : List Change → Order

-- the order keeps its limits
abbrev pub allowed : Order → Bool
allowed (reads indices) = counted indices
allowed (writes changes) = changes_allowed changes

-- the request that it makes
abbrev pub requested : Order → Content
requested (reads indices) = read_request indices
requested (writes changes) = write_request (map change_of changes)

-- an index is a number of 16 bits
abbrev pub Narrow : Order → Type 0
Narrow (reads indices) = AllByRecursion (λ i. i < 65536) indices
Narrow (writes changes) = AllByRecursion (λ c. c.index < 65536) changes

-- what an opening was answered: a refusal, or the number and the packet to send
pub data Opened : Type 0 where
  not_opened : Refusal → Opened
  opens : ℕ → List ℕ → Opened

-- what a poll was answered: a refusal, nothing due, the packet to send again, or the number of the one given up
pub data Polled : Type 0 where
  not_polled : Refusal → Polled
  nothing_due : Polled
  again : List ℕ → Polled
  failed : ℕ → Polled

-- a call at a catalogue
pub data CatalogueCall : Type 0 where
  enlist : ℕ → Result ℕ Refusal → CatalogueCall
  open_order : ℕ → ℕ → Order → Opened → CatalogueCall
  poll : ℕ → ℕ → Polled → CatalogueCall
  withdraw : ℕ → Result ℕ Refusal → CatalogueCall
  receive : ℕ → List ℕ → Result Message Refusal → CatalogueCall
  discover : ℕ → List ℕ → CatalogueCall

-- a call at a box; of handling, the reply and whether the store's contents stayed
pub data BoxCall : Type 0 where
  handle : ℕ → List ℕ → Result (List ℕ) Refusal → Bool → BoxCall
  owner_write : ℕ → Kind → List ℕ → ℕ → BoxCall

-- a call at the station with an address
pub data Event : Type 0 where
  at_catalogue : ℕ → CatalogueCall → Event
  at_box : ℕ → BoxCall → Event

-- x stands in the list
abbrev pub Mem : {A : Type 0} → A → List A → Type 0
Mem a [] = ⊥
Mem a (x ∷ xs) = (x ≡ a) ⊎ Mem a xs

-- the calls at the catalogue with this address
abbrev pub catalogue_calls : ℕ → List Event → List CatalogueCall
catalogue_calls c [] = []
catalogue_calls c (at_catalogue d x ∷ h) = cond (d == c) (x ∷ catalogue_calls c h) (catalogue_calls c h)
catalogue_calls c (at_box d x ∷ h) = catalogue_calls c h

-- the calls at the box with this address
abbrev pub box_calls : ℕ → List Event → List BoxCall
box_calls b [] = []
box_calls b (at_box d x ∷ h) = cond (d == b) (x ∷ box_calls b h) (box_calls b h)
box_calls b (at_catalogue d x ∷ h) = box_calls b h

-- the bytes that are handed out
abbrev pub bytes_in : Result (List ℕ) Refusal → List ℕ
bytes_in (Ok bytes) = bytes
bytes_in (Err reason) = []

-- the bytes at a place
abbrev pub bytes_at : Place → List ℕ → List ℕ → List ℕ
bytes_at place slab reply = bytes_in (part_of place slab reply)

-- an opening as it is told, with the packet as the slab has it then
abbrev pub opened_with : Result Sent Refusal → List ℕ → Opened
opened_with (Err reason) slab = not_opened reason
opened_with (Ok sent) slab = opens sent.number (bytes_at sent.place slab [])

-- a poll as it is told, with the packet as the slab has it
abbrev pub polled_as : Poll → List ℕ → Polled
polled_as NothingDue slab = nothing_due
polled_as (Again place) slab = again (bytes_at place slab [])
polled_as (Failed number) slab = failed number

abbrev pub polled_with : Result Poll Refusal → List ℕ → Polled
polled_with (Err reason) slab = not_polled reason
polled_with (Ok p) slab = polled_as p slab

-- a handling as it is told, with the reply as slab and reply buffer have it then
abbrev pub replied_with : Result Place Refusal → List ℕ → List ℕ → Result (List ℕ) Refusal
replied_with (Err reason) slab reply = Err reason
replied_with (Ok place) slab reply = Ok (bytes_at place slab reply)
