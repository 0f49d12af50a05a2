use Rattle.std.proofs.Common.{refl}
use Rattle.writer.proofs.Drafts.{puts_one}
use Rattle.writer.proofs.draft.Draft.put.Goals as goal

pub returns : goal.returns
returns c = puts_one c.args.bytes.now refl c.put-self.ensures.end c.put-self.ensures.row
