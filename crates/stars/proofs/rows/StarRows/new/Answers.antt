use Rattle.std.proofs.Common.{map, vec_items}
use Rattle.sky.specs.Stars.{row}
use Rattle.stars.specs.Counting.{rows_placed}
use Rattle.stars.proofs.rows.StarRows.new.Goals as goal

pub returns-clause-placed : goal.returns-clause-placed
returns-clause-placed c = rows_placed (map row (vec_items c.args.stars))
