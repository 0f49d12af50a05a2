use Rattle.std.proofs.Common.{sym, ◌∙◌, arith}
use Rattle.std.proofs.lemmas.List.{at_drop_all}
use Rattle.protocol.specs.Texts.{free}
use Rattle.protocol.proofs.PlainText.{free_more, free_stops}
use Rattle.protocol.proofs.texts.is_free.Goals as goal

pub returns-then-is_reserved : goal.returns-then-is_reserved
returns-then-is_reserved c = sym (sym c.loop-b.invariant ∙ free_stops c.args.bytes.now c.loop-b.b-index (omega arith) (sym c.if-is_reserved.ensures))

pub loop-b-preserved : goal.loop-b-preserved
loop-b-preserved c = free_more c.args.bytes.now c.loop-b.b-index (omega arith) (sym c.if-is_reserved.ensures) ∙ c.loop-b.invariant

pub returns : goal.returns
returns c = sym (sym c.loop-b.invariant ∙ at_drop_all free c.args.bytes.now c.loop-b.b-index (omega arith))
