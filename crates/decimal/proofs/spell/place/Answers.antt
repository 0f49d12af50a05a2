use Rattle.std.proofs.Common.{◌≡◌, ℕ, ◌+◌, ◌-◌, ◌≤◌, length, pos, nat_abs, ◌≤ℤ◌, ◌∙◌, arith, rules}
use Rattle.std.proofs.lemmas.List.{take-replicate}
use Rattle.decimal.proofs.Reals.{padded}
use Rattle.decimal.proofs.spell.place.Goals as goal

pub returns-in-0-to-9 : goal.returns-in-0-to-9
returns-in-0-to-9 c =
    let n = c.from-size.result + 1 - length c.args.digits.now in
    let a : pos 0 ≤ℤ c.args.p = search rules in
    let b : c.args.p ≤ℤ pos 9 = search rules in
    let v : c.from-size.result ≡ nat_abs c.args.p = search rules in
    let s : c.from-size.result ≤ 9 = search rules in
    let z : c.from-size.result + 1 - length c.args.digits.now - 0 ≡ c.from-size.result + 1 - length c.args.digits.now = omega arith in
    padded c.args.p c.args.text.now.bytes c.args.digits.now c.range-in-0-to-9.result.now _ _ c.from-size.result a b v c.if-digits-size.true
    (c.range-in-0-to-9.ensures.value ∙ rw z (take-replicate {X = ℕ} n 9 48 (omega arith)))
    c.push_str-in-0-to-9.ensures.bytes c.push_str-in-0-to-9-2.ensures.bytes
