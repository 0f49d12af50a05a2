use Rattle.std.proofs.Common.{◌^◌, ◌<◌, w16, w32, SFits, rules}
use Rattle.value.specs.declared.value.Value.TheVariants as V
use Rattle.value.proofs.Readings.{held_valid}
use Rattle.value.proofs.value.Value.kind.Goals as goal

pub returns-in-Bo-clause-valid : goal.returns-in-Bo-clause-valid
returns-in-Bo-clause-valid c = held_valid c.args.self (V.Bo c.in-Bo.field-0) c.in-Bo.is tt

pub returns-in-In-clause-valid : goal.returns-in-In-clause-valid
returns-in-In-clause-valid c = let f : SFits w32 c.in-In.field-0 = search rules in held_valid c.args.self (V.In c.in-In.field-0) c.in-In.is f

pub returns-in-Sh-clause-valid : goal.returns-in-Sh-clause-valid
returns-in-Sh-clause-valid c = let f : SFits w16 c.in-Sh.field-0 = search rules in held_valid c.args.self (V.Sh c.in-Sh.field-0) c.in-Sh.is f

pub returns-in-USh-clause-valid : goal.returns-in-USh-clause-valid
returns-in-USh-clause-valid c = let f : c.in-USh.field-0 < 2 ^ 16 = search rules in held_valid c.args.self (V.USh c.in-USh.field-0) c.in-USh.is f

pub returns-in-Lo-clause-valid : goal.returns-in-Lo-clause-valid
returns-in-Lo-clause-valid c = held_valid c.args.self (V.Lo c.in-Lo.field-0) c.in-Lo.is tt

pub returns-in-Si-clause-valid : goal.returns-in-Si-clause-valid
returns-in-Si-clause-valid c = held_valid c.args.self (V.Si c.in-Si.field-0) c.in-Si.is tt

pub returns-in-Do-clause-valid : goal.returns-in-Do-clause-valid
returns-in-Do-clause-valid c = held_valid c.args.self (V.Do c.in-Do.field-0) c.in-Do.is tt

pub returns-in-By-clause-valid : goal.returns-in-By-clause-valid
returns-in-By-clause-valid c = let f : c.in-By.field-0 < 2 ^ 8 = search rules in held_valid c.args.self (V.By c.in-By.field-0) c.in-By.is f
