use Rattle.std.proofs.Common.{rules, tests}
use Rattle.std.proofs.lemmas.Iterator.{YieldsList-from_slice}
use Rattle.std.proofs.lemmas.Iterator.Search.{all_from_yields_List}
use Rattle.writer.specs.Orders.{told}
use Rattle.writer.proofs.limits.all_told.Goals as goal

pub returns : goal.returns
returns c = all_from_yields_List told _ _ _ c.all.ensures.ran (YieldsList-from_slice c.args.readings.now c.iter.ensures.rest) (λ x b q k. search (rules, tests))
