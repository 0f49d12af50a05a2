use Rattle.std.proofs.lemmas.Int.{ints, to_z-of_z}
use Rattle.decimal.proofs.Reals.{fits16, difference64}
use Rattle.std.proofs.Common.{pos, ◌-ℤ◌, refl, w16, SFits, ◌-◌, ◌*◌, ◌^◌, ◌<◌, ◌≤◌, sym, subst, arith}
use Rattle.decimal.proofs.Sizes.{digits_below, filled, size_is}
use Rattle.decimal.proofs.range.aligned.Goals as goal
use Rattle.decimal.proofs.range.aligned.Goals.{After-ilog10-missing, After-pow}

short : (c : goal.After-ilog10-missing) → c.ilog10-missing.result ≤ 17
short c = digits_below c.ilog10-missing.result c.args.d.digits c.ilog10-missing.ensures.power_le c.requires.digits.1

pub overflow_sub-missing : goal.overflow_sub-missing
overflow_sub-missing c = short (goal.at.overflow_sub-missing c).After-ilog10-missing

full : (c : goal.After-pow) → (10 ^ 17 ≤ c.args.d.digits * c.pow.result) × (c.args.d.digits * c.pow.result < 10 ^ 18)
full c =
    let k = c.ilog10-missing.result in
    subst (λ p. (10 ^ 17 ≤ c.args.d.digits * p) × (c.args.d.digits * p < 10 ^ 18)) (sym c.pow.ensures)
    (filled k c.args.d.digits c.ilog10-missing.ensures.power_le c.ilog10-missing.ensures.next_power_gt (digits_below k c.args.d.digits c.ilog10-missing.ensures.power_le c.requires.digits.1))

pub overflow_mul-result : goal.overflow_mul-result
overflow_mul-result c = let f = full (goal.at.overflow_mul-result c).After-pow in omega arith

pub returns-clause-same : goal.returns-clause-same
returns-clause-same c =
    let d = c.args.d in
    let k = c.ilog10-missing.result in
    let m = 17 - k in
    let s = size_is d m (d.exponent -ℤ pos m) c.requires.bounds.0 (omega arith) refl in
    let a : SFits w16 d.exponent = fits16 d.exponent (omega (arith, ints, c.requires.bounds.0)) (omega (arith, ints, c.requires.bounds.1)) in
    let x = simp to_z-of_z at c.from.ensures in
    rw (c.pow.ensures, x, c.from-2.ensures, difference64 d.exponent m (omega (arith, ints, c.requires.bounds.0)) (omega (arith, ints, c.requires.bounds.1)) (omega arith)) s

pub returns-clause-full : goal.returns-clause-full
returns-clause-full c = full (goal.at.returns-clause-full c).After-pow
