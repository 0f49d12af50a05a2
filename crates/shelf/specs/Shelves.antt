-- What a shelf means.
use Rattle.std.specs.Prelude.{List, map, vec_items}
use Rattle.store.specs.Contents.{Contents}
use Rattle.shelf.specs.Entries.{Entry, entry_of, shelf_of}
use Rattle.shelf.specs.declared.shelf.Shelf.{Shelf}

abbrev pub entries : Shelf → List Entry
entries s = map entry_of (vec_items s.slots)

abbrev pub shelf : Shelf → Contents
shelf s = shelf_of s.low s.high (entries s)
