use Rattle.std.proofs.Common.{ap, ◌∙◌}
use Rattle.stock.specs.Made.{housed, side_by_side}
use Rattle.stock.specs.Parts.{told_plainly}
use Rattle.stock.specs.Stores.{contents}
use Rattle.stock.proofs.Makers.{turned_down, number_down, house_below_none}
use Rattle.stock.proofs.any.AnyStore.mount.Goals as goal

pub returns-in_err-shelf : goal.returns-in_err-shelf
returns-in_err-shelf c =
    let shelf = told_plainly _ _ _ _ c.in_err-shelf.ensures in
    turned_down contents _ _ c.from_residual.ensures.1 ∙ house_below_none c.args.serial.now c.args.identifier.now _ _ (number_down _ _ _ shelf) shelf

pub returns-in_err-with_house : goal.returns-in_err-with_house
returns-in_err-with_house c =
    turned_down contents _ _ c.from_residual-in_err-with_house.ensures.1 ∙ c.in_err-with_house.ensures
    ∙ ap (side_by_side (housed c.args.serial.now c.args.identifier.now)) (told_plainly _ _ _ _ c.in_ok-shelf.ensures)
