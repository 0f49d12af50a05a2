-- What each of the stores that boxes are made over means.
use Rattle.shelf.specs.Shelves.{shelf}
use Rattle.stars.specs.Rows.{star_rows}
use Rattle.store.specs.Contents.{Contents}
use Rattle.store.specs.House.{house}
use Rattle.store.specs.Joining.{joined}
use Rattle.stock.specs.declared.any.AnyStore.{AnyStore}
use Rattle.stock.specs.declared.any.AnyStore.TheVariants.{Mount, Library, Dome, Bare}

-- the joined store of its parts, or the shelf itself
abbrev pub contents : AnyStore → Contents
contents (Mount j) = joined (house j.lower) (shelf j.upper)
contents (Library j) = joined (house j.lower) (star_rows j.upper)
contents (Dome j) = joined (house j.lower) (joined (star_rows j.upper.lower) (shelf j.upper.upper))
contents (Bare s) = shelf s
