use Rattle.std.proofs.Common.{negsuc, ◌≤ℤ◌, ◌&&◌, ◌||◌, sym, ap, ◌∙◌}
use Rattle.std.proofs.lemmas.Bool.{ne_eqb}
use Rattle.decimal.specs.Range.{at_most}
use Rattle.decimal.proofs.Sizes.{sizes, in_order, both, end_low}
use Rattle.decimal.proofs.range.is_within.Goals as goal

pub returns-else-d-eq0 : goal.returns-else-d-eq0
returns-else-d-eq0 g c =
    let d = c.args.d.real in
    let least = g.R.Reach.LEAST in
    let most = g.R.Reach.MOST in
    let size = c.aligned-else-d-eq0-2.ensures in
    let a : negsuc 1099 ≤ℤ c.LEAST.result.exponent = rw c.LEAST.ensures (end_low least g.R.Reach.least_fits) in
    let b : negsuc 1099 ≤ℤ c.MOST.result.exponent = rw c.MOST.ensures (end_low most g.R.Reach.most_fits) in
    let low = in_order _ _ _ _ _ _ c.aligned.ensures.same size.same c.aligned.ensures.low size.low c.aligned.ensures.full size.full ∙ sizes c.LEAST.result d a c.args.d.low ∙ ap (λ e. at_most e d) c.LEAST.ensures in
    let high = in_order _ _ _ _ _ _ size.same c.aligned-else-d-eq0.ensures.same size.low c.aligned-else-d-eq0.ensures.low size.full c.aligned-else-d-eq0.ensures.full ∙ sizes d c.MOST.result c.args.d.low b ∙ ap (at_most d) c.MOST.ensures in
    rw (c.new.ensures.start, c.new.ensures.end, c.new.ensures.exhausted) at c.contains.ensures.value
    ∙ both _ _ _ _ low high
    ∙ sym (ap (λ t. t || (at_most least d && at_most d most)) (ne_eqb d.digits 0 c.if-d-eq0.false))
