use Rattle.std.proofs.Common.{arith}
use Rattle.field.proofs.Splits.{none_left}
use Rattle.field.proofs.fields.Fields.is_empty.Goals as goal

pub returns : goal.returns
returns c = let k = none_left c.args.self.now.rest in grind arith
