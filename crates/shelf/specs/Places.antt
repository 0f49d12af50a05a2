-- The place of an index in a row of slots.
use Rattle.std.specs.Prelude.{◌≡◌, ℕ, ◌<◌, List, map, length, get_or, Some, slice_index_or}
use Rattle.shelf.specs.Entries.{entry_of, element_of, lookup}
use Rattle.shelf.specs.declared.slot.Slot.{Slot}

-- the element with the index i stands at k
pub record Place (xs : List Slot) (i k : ℕ) : Type 0 where
  pub within : k < length xs
  pub index : (d : Slot) → (get_or xs k d).index ≡ i
  pub held : (d : Slot) → lookup (map entry_of xs) i ≡ Some (element_of (slice_index_or xs k d))
