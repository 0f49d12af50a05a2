use Rattle.std.proofs.Common.{◌+◌, ◌-◌, ◌*◌, get_or, drop, sym, ap, ◌∙◌, subst, arith}
use Rattle.std.specs.Str.Parse.{digits_value_after}
use Rattle.std.proofs.lemmas.List.{at_drop_all}
use Rattle.decimal.specs.Gather.{amount, TooLong}
use Rattle.decimal.proofs.Gathers.{digit_in, long_all, all_drop, stepped}
use Rattle.decimal.proofs.coefficient.Coefficient.append.Goals as goal

pub overflow_sub-digit : goal.overflow_sub-digit
overflow_sub-digit c = (digit_in c.args.digits.bytes.now c.loop-digit.digit-index c.args.digits.digits (omega arith)).0

pub push-requires : goal.push-requires
push-requires c =
    let d = digit_in c.args.digits.bytes.now c.loop-digit.digit-index c.args.digits.digits (omega arith) in
    record { digit = omega arith; room = omega arith }

pub returns-in_err-number : goal.returns-in_err-number
returns-in_err-number c =
    let ds = c.args.digits.bytes.now in
    let i = c.loop-digit.digit-index in
    let a = c.args.digits.digits in
    rw c.from_residual.ensures
    (subst TooLong (sym (stepped (amount c.loop-digit.number) ds i a (omega arith)) ∙ c.loop-digit.invariant.0)
    (long_all (drop (i + 1) ds) (amount c.loop-digit.number * 10 + (get_or ds i 0 - 48)) (all_drop ds (i + 1) a) c.in_err-number.ensures))

pub loop-digit-preserved : goal.loop-digit-preserved
loop-digit-preserved c =
    let ds = c.args.digits.bytes.now in
    let i = c.loop-digit.digit-index in
    let e = c.in_ok-number.ensures in
    (ap (λ x. digits_value_after 10 x (drop (i + 1) ds)) e.0 ∙ sym (stepped (amount c.loop-digit.number) ds i c.args.digits.digits (omega arith)) ∙ c.loop-digit.invariant.0, omega (arith, e.1))

pub returns : goal.returns
returns c =
    (sym (at_drop_all (digits_value_after 10 (amount c.loop-digit.number)) c.args.digits.bytes.now c.loop-digit.digit-index c.loop-digit-test.false) ∙ c.loop-digit.invariant.0, omega arith)
