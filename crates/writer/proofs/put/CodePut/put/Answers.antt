use Rattle.std.proofs.Common.{decimal, ap, ◌∙◌}
use Rattle.protocol.specs.Words.{code_number}
use Rattle.writer.specs.Bytes.{colon}
use Rattle.writer.proofs.Drafts.{puts_as, puts_last}
use Rattle.writer.proofs.put.CodePut.put.Goals as goal

pub returns-clause-puts : goal.returns-clause-puts
returns-clause-puts c = puts_last (decimal (code_number c.args.self.now)) (puts_as _ _ (ap (λ n. colon (decimal n)) (c.from-2.ensures ∙ c.from.ensures)) c.put_number.ensures)
