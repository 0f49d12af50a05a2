-- What star rows mean.
use Rattle.std.specs.Prelude.{map, vec_items}
use Rattle.sky.specs.Stars.{row}
use Rattle.store.specs.Contents.{Contents}
use Rattle.stars.specs.Facts.{stars_of}
use Rattle.stars.specs.declared.rows.StarRows.{StarRows}

abbrev pub star_rows : StarRows → Contents
star_rows s = stars_of (map row (vec_items s.stars))
