use Rattle.std.proofs.Common.{ap, ap₂, ◌∙◌, vec_items, vec_len, arith}
use Rattle.stock.specs.Made.{housed, side_by_side}
use Rattle.stock.specs.Parts.{told_plainly, rows_told}
use Rattle.stock.specs.Stores.{contents}
use Rattle.stock.proofs.Makers.{turned_down, number_down, house_below_none}
use Rattle.stock.proofs.any.AnyStore.dome.Goals as goal

pub returns-in_err-top : goal.returns-in_err-top
returns-in_err-top c =
    let stars = c.args.stars in
    let top = told_plainly _ _ _ _ c.in_err-top.ensures in
    turned_down contents _ _ c.from_residual-in_err-top.ensures.1
    ∙ house_below_none c.args.serial.now c.args.identifier.now _ _ (number_down _ _ _ top)
    (ap₂ side_by_side (rows_told (vec_len stars) (vec_items stars) _ stars (omega (arith, stars.ok.0)) c.in_ok-rows.ensures.made) top)

pub returns-in_err-with_house : goal.returns-in_err-with_house
returns-in_err-with_house c =
    let stars = c.args.stars in
    turned_down contents _ _ c.from_residual-in_err-with_house.ensures.1 ∙ c.in_err-with_house.ensures
    ∙ ap (side_by_side (housed c.args.serial.now c.args.identifier.now))
    (told_plainly _ _ _ _ c.in_ok-both.ensures.made ∙ ap₂ side_by_side (rows_told (vec_len stars) (vec_items stars) _ stars (omega (arith, stars.ok.0)) c.in_ok-rows.ensures.made) (told_plainly _ _ _ _ c.in_ok-top.ensures))

pub returns : goal.returns
returns c =
    let stars = c.args.stars in
    c.in_ok-with_house.ensures
    ∙ ap (side_by_side (housed c.args.serial.now c.args.identifier.now))
    (told_plainly _ _ _ _ c.in_ok-both.ensures.made ∙ ap₂ side_by_side (rows_told (vec_len stars) (vec_items stars) _ stars (omega (arith, stars.ok.0)) c.in_ok-rows.ensures.made) (told_plainly _ _ _ _ c.in_ok-top.ensures))
