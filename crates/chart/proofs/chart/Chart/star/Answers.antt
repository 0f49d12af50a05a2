use Rattle.std.proofs.Common.{◌≡◌, Some, None, sym, ap, ◌∙◌}
use Rattle.std.specs.Option.{option_map}
use Rattle.sky.specs.Stars.{row}
use Rattle.sky.specs.Names.{place_of}
use Rattle.chart.proofs.Places.{none_named, some_named}
use Rattle.chart.proofs.chart.Chart.star.Goals as goal

pub returns-in_err-place : goal.returns-in_err-place
returns-in_err-place c =
    let name = c.args.name.now in
    let stars = c.args.self.now.stars.items in
    let none : place_of name stars ≡ None = cc c.in_err-place.ensures.value in
    ap (option_map row) c.from_residual.ensures ∙ sym (none_named name stars none)

pub returns : goal.returns
returns c =
    let name = c.args.name.now in
    let stars = c.args.self.now.stars.items in
    let some : place_of name stars ≡ Some c.in_ok-place.place = cc c.in_ok-place.ensures.value in
    let held = some_named name stars c.in_ok-place.place c.index.result.now some in
    cc (held, c.index.ensures)
