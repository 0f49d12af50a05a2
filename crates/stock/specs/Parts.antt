-- The stores that are joined mean what a store can mean; the making of star rows, by their count.
use Rattle.std.specs.Prelude.{◌≡◌, ℕ, Bool, true, false, cond, List, map, length, Ok, Err, vec_items, Result}
use Rattle.std.proofs.Common.{sym, ap, ◌∙◌, arith}
use Rattle.std.proofs.lemmas.List.{length-map}
use Rattle.protocol.specs.Held.{text_bytes}
use Rattle.shelf.specs.Rows.{row_sound}
use Rattle.shelf.specs.Shelves.{shelf}
use Rattle.shelf.specs.declared.shelf.Shelf.{Shelf}
use Rattle.sky.specs.Stars.{row}
use Rattle.sky.specs.declared.star.Star.{Star}
use Rattle.stars.specs.Facts.{counted, stars_of}
use Rattle.stars.specs.Soundness.{stars_sound}
use Rattle.stars.specs.Rows.{star_rows}
use Rattle.stars.specs.declared.rows.StarRows.{StarRows}
use Rattle.store.specs.Houses.{house_sound}
use Rattle.store.specs.Contents.{Contents, Sound}
use Rattle.store.specs.House.{house}
use Rattle.store.specs.declared.house.HouseRecord.{HouseRecord}
use Rattle.stock.specs.Made.{if_held, starred}

pub sound_house : (h : HouseRecord) → Sound (house h)
sound_house h = house_sound (text_bytes h.serial) (text_bytes h.identifier) h.serial.plain h.identifier.plain

pub sound_shelf : (s : Shelf) → Sound (shelf s)
sound_shelf s = row_sound s.low s.high (vec_items s.slots) s.narrow s.rule

pub sound_rows : (s : StarRows) → Sound (star_rows s)
sound_rows s = stars_sound (vec_items s.stars) (omega (arith, s.stars.ok.0)) (omega (arith, s.stars.ok.0))

-- a making without what was handed back
abbrev pub plainly : {T : Type 0} → Result Contents (ℕ × T) → Result Contents ℕ
plainly (Ok c) = Ok c
plainly (Err p) = Err p.0

pub told_plainly : {T : Type 0} (b : Bool) (r : Result Contents (ℕ × T)) (c : Contents) (s : T) → r ≡ cond b (Ok c) (Err (13, s)) → plainly r ≡ if_held b c
told_plainly true r c s e = ap plainly e
told_plainly false r c s e = ap plainly e

-- the making of star rows, by the count of their stars
pub rows_told : {T : Type 0} (n : ℕ) (xs : List Star) (r : Result Contents (ℕ × T)) (s : T) → n ≡ length xs → r ≡ cond (counted n) (Ok (stars_of (map row xs))) (Err (13, s)) → plainly r ≡ starred (map row xs)
rows_told n xs r s l e =
    told_plainly (counted n) r (stars_of (map row xs)) s e
    ∙ ap (λ (m : ℕ). if_held (counted m) (stars_of (map row xs))) (l ∙ sym (length-map xs row))
