use Rattle.std.proofs.Common.{◌∙◌, rules, tests}
use Rattle.std.specs.Str.{bytes_eq}
use Rattle.std.proofs.lemmas.Iterator.{YieldsList-from_slice}
use Rattle.std.proofs.lemmas.Iterator.Search.{position_from_yields_List}
use Rattle.sky.specs.Stars.{star_name}
use Rattle.sky.proofs.Lookups.{place_position}
use Rattle.sky.proofs.names.find.Goals as goal

pub returns-clause-value : goal.returns-clause-value
returns-clause-value c =
    position_from_yields_List (λ s. bytes_eq (star_name s) c.args.name.now) _ _ _ c.position.ensures.ran (YieldsList-from_slice c.args.stars.now c.iter.ensures.rest) (λ x b q k. search (rules, tests))
    ∙ place_position c.args.name.now c.args.stars.now
