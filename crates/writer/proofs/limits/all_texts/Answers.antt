use Rattle.std.proofs.Common.{is_some, rules, tests}
use Rattle.std.proofs.lemmas.Iterator.{YieldsList-from_slice}
use Rattle.std.proofs.lemmas.Iterator.Search.{all_from_yields_List}
use Rattle.writer.proofs.limits.all_texts.Goals as goal

pub returns : goal.returns
returns c = all_from_yields_List (λ x. is_some x.text) _ _ _ c.all.ensures.ran (YieldsList-from_slice c.args.changes.now c.iter.ensures.rest) (λ x b q k. search (rules, tests))
