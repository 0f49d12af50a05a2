-- Elements with their indices, in a row.
--     entry_of s             what a slot holds, and element_of s without its index
--     lookup es i            the element with the index i
--     ascending low high es  the indices ascend strictly, between the limits
--     shelved low high es    what a shelf asks
--     shelf_of low high es   what a shelf means
use Rattle.std.specs.Prelude.{ℕ, suc, Bool, true, cond, ◌&&◌, List, [], ◌∷◌, length, Some, None, Option, ◌==◌, nat_le}
use Rattle.value.specs.Meant.{datum_of}
use Rattle.store.specs.Contents.{Element, Contents}
use Rattle.shelf.specs.declared.slot.Slot.{Slot}

-- an element with its index
pub record Entry : Type 0 where
  pub index : ℕ
  pub element : Element

abbrev pub entry_of : Slot → Entry
entry_of s = record { index = s.index; element = record { kind = s.kind; datum = datum_of s.value; fixed = s.fixed } }

abbrev pub element_of : Slot → Element
element_of s = (entry_of s).element

-- the index lies between the limits
abbrev pub lies : ℕ → ℕ → Slot → Bool
lies low high s = nat_le low s.index && nat_le s.index high

abbrev pub lookup : List Entry → ℕ → Option Element
lookup [] i = None
lookup (e ∷ es) i = cond (i == e.index) (Some e.element) (lookup es i)

-- each index is at least low and at most high, and above the one before
abbrev pub ascending : ℕ → ℕ → List Entry → Bool
ascending low high [] = true
ascending low high (e ∷ es) = nat_le low e.index && (nat_le e.index high && ascending (suc e.index) high es)

-- 1 to 256 elements
abbrev pub counted : List Entry → Bool
counted es = nat_le 1 (length es) && nat_le (length es) 256

-- two limits, the first not above the second, and 1 to 256 elements in strictly ascending order between them
abbrev pub shelved : ℕ → ℕ → List Entry → Bool
shelved low high es = nat_le low high && (counted es && ascending low high es)

abbrev pub shelf_of : ℕ → ℕ → List Entry → Contents
shelf_of low high es = record { low = low; high = high; element = lookup es }
