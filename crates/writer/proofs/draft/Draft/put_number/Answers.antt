use Rattle.std.proofs.Common.{sym, ap, arith}
use Rattle.std.proofs.lemmas.Fmt.{decimal_digit}
use Rattle.writer.specs.Bytes.{colon}
use Rattle.writer.proofs.Drafts.{puts_as}
use Rattle.writer.proofs.draft.Draft.put_number.Goals as goal

pub returns-then-number-lt10 : goal.returns-then-number-lt10
returns-then-number-lt10 c = puts_as _ _ (ap colon (sym (decimal_digit c.args.number (omega arith)))) c.put.ensures
