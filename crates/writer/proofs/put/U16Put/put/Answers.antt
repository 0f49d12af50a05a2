use Rattle.std.proofs.Common.{decimal}
use Rattle.writer.proofs.Drafts.{puts_last}
use Rattle.writer.proofs.put.U16Put.put.Goals as goal

pub returns-clause-puts : goal.returns-clause-puts
returns-clause-puts c = puts_last (decimal c.args.self.now) c.put_number.ensures
