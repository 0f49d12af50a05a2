use Rattle.std.proofs.Common.{rules, tests, ◌∙◌}
use Rattle.std.proofs.lemmas.Iterator.{YieldsList-from_slice}
use Rattle.std.proofs.lemmas.Iterator.Search.{all_from_yields_List}
use Rattle.field.proofs.Braces.{no_brace, plain_all}
use Rattle.field.proofs.frame.is_plain.Goals as goal

pub returns : goal.returns
returns c = all_from_yields_List no_brace _ _ _ c.all.ensures.ran (YieldsList-from_slice c.args.bytes.now cc) (λ x b q k. search (rules, tests)) ∙ plain_all c.args.bytes.now
