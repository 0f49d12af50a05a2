use Rattle.std.proofs.Common.{◌≡◌, ◌+◌, ◌≤◌, drop}
use Rattle.std.specs.Str.Parse.{digits_value_after}
use Rattle.decimal.specs.Gather.{amount}
use Rattle.decimal.proofs.coefficient.Coefficient.append.Given as goal

abbrev pub invariant-loop-digit : goal.invariant-loop-digit
invariant-loop-digit l =
    (digits_value_after 10 (amount l.number) (drop l.digit-index l.digits.bytes.now) ≡ digits_value_after 10 (amount l.initial.number) l.digits.bytes.now)
    × (l.number.zeros ≤ l.initial.number.zeros + l.digit-index)
