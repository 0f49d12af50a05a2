use Rattle.std.proofs.Common.{length, pos, ◌-ℤ◌, sym, ap, ◌∙◌, subst, arith}
use Rattle.std.specs.Option.{option_map}
use Rattle.std.specs.Str.Parse.{digits_value_after}
use Rattle.std.proofs.lemmas.Int.{ints}
use Rattle.decimal.specs.Gather.{amount, TooLong}
use Rattle.decimal.specs.Reading.{normal}
use Rattle.decimal.specs.Views.{normal_real}
use Rattle.decimal.proofs.Gathers.{long_all}
use Rattle.decimal.proofs.Readings.{together, normal_long, difference_in}
use Rattle.decimal.proofs.scan.put_together.Goals as goal

pub returns-in_err-append : goal.returns-in_err-append
returns-in_err-append c =
    let fraction = c.args.fraction.bytes.now in
    ap (option_map normal_real) c.from_residual-in_err-append.ensures
    ∙ sym (together c.args.negative c.args.whole.bytes.now fraction c.args.rest.now c.in_ok-power.power c.in_ok-power.ensures.value
    ∙ normal_long c.args.negative _ _ (long_all fraction (digits_value_after 10 0 c.args.whole.bytes.now) c.args.fraction.digits c.in_err-append.ensures))

pub returns-in_err-all : goal.returns-in_err-all
returns-in_err-all c =
    let fraction = c.args.fraction.bytes.now in
    ap (option_map normal_real) c.from_residual-in_err-all.ensures
    ∙ sym (together c.args.negative c.args.whole.bytes.now fraction c.args.rest.now c.in_ok-power.power c.in_ok-power.ensures.value
    ∙ normal_long c.args.negative _ _ (subst (λ m. TooLong (digits_value_after 10 m fraction)) c.in_ok-append.ensures.0 c.in_err-all.ensures))

pub returns : goal.returns
returns c =
    let fraction = c.args.fraction.bytes.now in
    let z = c.in_ok-power.power in
    let n = length c.args.fraction.bytes.now in
    let b = c.in_ok-power.ensures.bound in
    sym c.settle.ensures
    ∙ ap (normal c.args.negative (amount c.in_ok-all.all)) (difference_in z n (omega (arith, ints)) (omega (arith, ints)) (omega arith))
    ∙ ap (λ m. normal c.args.negative m (z -ℤ pos n)) (c.in_ok-all.ensures.0 ∙ ap (λ m. digits_value_after 10 m fraction) c.in_ok-append.ensures.0)
    ∙ sym (together c.args.negative c.args.whole.bytes.now fraction c.args.rest.now z c.in_ok-power.ensures.value)
