use Rattle.std.proofs.Common.{ap, ◌∙◌}
use Rattle.decimal.specs.Range.{within_of}
use Rattle.decimal.proofs.Forms.{ranged_kept, ranged_back}
use Rattle.decimal.proofs.ranged.Ranged.spelling.Goals as goal

pub spell-requires : goal.spell-requires
spell-requires g c = let k = ranged_kept c.args.self.now in (k.low, k.high)

pub returns-clause-back : goal.returns-clause-back
returns-clause-back g c = ap (within_of g.R.Reach.LEAST g.R.Reach.MOST) c.spell.ensures ∙ ranged_back c.args.self.now
