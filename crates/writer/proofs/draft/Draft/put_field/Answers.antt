use Rattle.std.proofs.Common.{[], ◌∷◌}
use Rattle.writer.proofs.Drafts.{puts_both}
use Rattle.writer.proofs.draft.Draft.put_field.Goals as goal

pub returns : goal.returns
returns c = puts_both (58 ∷ []) c.args.field.now c.put.ensures c.put-2.ensures
