-- What star rows are asked.
use Rattle.std.proofs.Common.{◌≡◌, ℕ, ◌-◌, ◌/◌, ◌%◌, ◌<◌, true, List, map, length, get_or, Some, sym, ap, ap₂, ◌∙◌, arith}
use Rattle.std.proofs.lemmas.List.{length-map, get_or-map}
use Rattle.sky.specs.Stars.{row}
use Rattle.sky.specs.declared.star.Star.{Star}
use Rattle.store.specs.Contents.{Typed, fixed, inside}
use Rattle.stars.specs.Facts.{star_element, stars_of}
use Rattle.stars.specs.Parts.{part_of}
use Rattle.stars.specs.Counting.{within, element_at}

pub row_there : (xs : List Star) (i : ℕ) → inside (stars_of (map row xs)) i ≡ true → (i - 100) / 3 < length xs
row_there xs i h = let w = within (map row xs) i h in omega (arith, length-map xs row, w.row)

-- x is the star of the row, and p the part
pub part_at : (xs : List Star) (i p : ℕ) (x : Star) (t : Typed) → inside (stars_of (map row xs)) i ≡ true → x ≡ get_or xs ((i - 100) / 3) x → (i - 100) % 3 ≡ p → t ≡ part_of (row x) p → Some (fixed t) ≡ star_element (map row xs) i
part_at xs i p x t h is part e =
    let k = (i - 100) / 3 in
    let there : get_or (map row xs) k (row x) ≡ row x = get_or-map row xs k x (row x) (row_there xs i h) ∙ ap row (sym is) in
    ap (λ s. Some (fixed s)) e ∙ sym (element_at (map row xs) i (row x) h ∙ ap₂ (λ r n. Some (fixed (part_of r n))) there part)
