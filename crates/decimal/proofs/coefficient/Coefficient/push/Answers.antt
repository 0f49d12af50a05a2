use Rattle.std.proofs.Common.{◌≡◌, ◌*◌, ◌^◌, ◌≤◌, ap, ◌∙◌, inl, inr, arith}
use Rattle.std.proofs.lemmas.Bool.{cases_lt}
use Rattle.decimal.specs.Gather.{amount}
use Rattle.decimal.proofs.Gathers.{zero_more, long_here, big}
use Rattle.decimal.proofs.coefficient.Coefficient.push.Goals as goal
use Rattle.decimal.proofs.coefficient.Coefficient.push.Goals.{After-checked_mul}

pub returns-then-digit-eq0 : goal.returns-then-digit-eq0
returns-then-digit-eq0 c = (omega (arith, zero_more c.args.self.digits c.args.self.zeros), omega arith)

pub returns-then-zeros-gt18 : goal.returns-then-zeros-gt18
returns-then-zeros-gt18 c =
    let b = big c.args.self.digits c.args.self.zeros (omega arith) (omega arith) in
    long_here (amount c.args.self) c.args.digit (omega arith) (omega arith) (omega arith)

product : (c : goal.After-checked_mul) → c.args.self.digits * c.pow.result ≡ amount c.args.self * 10
product c =
    ap (λ x. c.args.self.digits * x) (c.pow.ensures ∙ ap (λ x. 10 ^ x) c.from.ensures) ∙ zero_more c.args.self.digits c.args.self.zeros

pub returns-in_err-front : goal.returns-in_err-front
returns-in_err-front c =
    let p = product (goal.at.returns-in_err-front c).After-checked_mul in
    let f : 2 ^ 64 ≤ c.args.self.digits * c.pow.result =
    elim (cases_lt (c.args.self.digits * c.pow.result) (2 ^ 64)) [ inl l ↦ absurd (c.in_err-front.ensures l) | inr l ↦ l ] in
    rw c.from_residual.ensures (long_here (amount c.args.self) c.args.digit (omega arith) (omega arith) (omega arith))

pub returns-then-front-digit : goal.returns-then-front-digit
returns-then-front-digit c =
    let p = product (goal.at.returns-then-front-digit c).After-checked_mul in
    let f = c.in_ok-front.ensures.1 in
    long_here (amount c.args.self) c.args.digit (omega arith) (omega arith) (omega arith)

pub invariant_of-result-2 : goal.invariant_of-result-2
invariant_of-result-2 c =
    let p = product (goal.at.invariant_of-result-2 c).After-checked_mul in
    let f = c.in_ok-front.ensures.1 in
    record { short = omega arith; last = λ e. omega arith }

pub returns : goal.returns
returns c =
    let p = product (goal.at.returns c).After-checked_mul in
    let f = c.in_ok-front.ensures.1 in
    (omega arith, omega arith)
