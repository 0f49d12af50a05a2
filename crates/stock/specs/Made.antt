-- Which stores can be made: what they mean, or refusal 13.
--     mount_of serial identifier low high es        a house record and a shelf
--     library_of serial identifier rs               a house record and star rows
--     dome_of serial identifier rs low high es      a house record, star rows and a shelf
--     shelves low high es                           a shelf alone
use Rattle.std.specs.Prelude.{ℕ, Bool, cond, ◌&&◌, List, length, Ok, Err, Result}
use Rattle.protocol.specs.Texts.{textual}
use Rattle.protocol.specs.Words.{refusal_number}
use Rattle.protocol.specs.declared.refusal.Refusal.{Refusal}
use Rattle.sky.specs.Stars.{Row}
use Rattle.shelf.specs.Entries.{Entry, shelved, shelf_of}
use Rattle.stars.specs.Facts.{counted, stars_of}
use Rattle.store.specs.Contents.{Contents}
use Rattle.store.specs.House.{house_of}
use Rattle.store.specs.Joining.{below, beside}

-- what the store that was made means, or the number of the refusal
abbrev pub told : {A : Type 0} → (A → Contents) → Result A Refusal → Result Contents ℕ
told meaning (Ok s) = Ok (meaning s)
told meaning (Err r) = Err (refusal_number r)

-- a store, where the test holds
abbrev pub if_held : Bool → Contents → Result Contents ℕ
if_held b c = cond b (Ok c) (Err 13)

-- the house record of two texts
abbrev pub housed : List ℕ → List ℕ → Result Contents ℕ
housed serial identifier = if_held (textual serial && textual identifier) (house_of serial identifier)

-- the shelf of elements that it can hold
abbrev pub shelves : ℕ → ℕ → List Entry → Result Contents ℕ
shelves low high es = if_held (shelved low high es) (shelf_of low high es)

-- the star rows of 1 to 20,000 rows
abbrev pub starred : List Row → Result Contents ℕ
starred rs = if_held (counted (length rs)) (stars_of rs)

-- the joined store of two that were made, where the first is the lower
abbrev pub side_by_side : Result Contents ℕ → Result Contents ℕ → Result Contents ℕ
side_by_side (Err n) b = Err n
side_by_side (Ok a) (Err n) = Err n
side_by_side (Ok a) (Ok b) = if_held (below a b) (beside a b)

abbrev pub mount_of : List ℕ → List ℕ → ℕ → ℕ → List Entry → Result Contents ℕ
mount_of serial identifier low high es = side_by_side (housed serial identifier) (shelves low high es)

abbrev pub library_of : List ℕ → List ℕ → List Row → Result Contents ℕ
library_of serial identifier rs = side_by_side (housed serial identifier) (starred rs)

abbrev pub dome_of : List ℕ → List ℕ → List Row → ℕ → ℕ → List Entry → Result Contents ℕ
dome_of serial identifier rs low high es = side_by_side (housed serial identifier) (side_by_side (starred rs) (shelves low high es))
