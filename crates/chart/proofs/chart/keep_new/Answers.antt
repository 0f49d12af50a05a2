use Rattle.std.proofs.Common.{◌≡◌, true, false, is_some, ◌∙◌, sym}
use Rattle.std.proofs.lemmas.Bool.{cond-true, cond-false}
use Rattle.sky.specs.Stars.{star_name}
use Rattle.sky.specs.Names.{place_from}
use Rattle.chart.proofs.Places.{named_if_placed}
use Rattle.chart.proofs.chart.keep_new.Goals as goal

pub returns-then-is_some : goal.returns-then-is_some
returns-then-is_some c =
    let name = star_name c.args.star in
    let there : is_some (place_from 0 name c.args.stars.now) ≡ true = cc in
    sym (cond-true _ _ _ (named_if_placed 0 name c.args.stars.now ∙ there))

pub returns : goal.returns
returns c =
    let name = star_name c.args.star in
    let there : is_some (place_from 0 name c.args.stars.now) ≡ false = cc in
    sym (cond-false _ _ _ (named_if_placed 0 name c.args.stars.now ∙ there))
