use Rattle.std.proofs.Common.{◌≡◌, true, sym, w64, SFits, rules}
use Rattle.std.proofs.lemmas.Int.{to_z-of_z}
use Rattle.value.specs.Whole.{begins}
use Rattle.value.proofs.Wholes.{wide_none, wide_some}
use Rattle.value.proofs.whole.read_whole.Goals as goal

pub returns-in_err-number : goal.returns-in_err-number
returns-in_err-number g c =
    let b : begins c.as_str-digits.result.now ≡ true = search rules in
    let e = wide_none c.as_str-digits.result.now c.parse.result b c.parse.ensures.value.0 c.in_err-number.ensures.value in
    rw (sym c.as_str-digits.ensures.value, e) c.from_residual.ensures

pub returns : goal.returns
returns g c =
    let f : SFits w64 c.in_ok-number.number = search rules in
    let b : begins c.as_str-digits.result.now ≡ true = search rules in
    let e = wide_some c.as_str-digits.result.now c.parse.result c.in_ok-number.number f b c.parse.ensures.value.0 c.in_ok-number.ensures.value in
    rw (sym c.as_str-digits.ensures.value, e) (c.try_from.result, simp to_z-of_z at c.try_from.ensures, c.ok-2.ensures.value)
