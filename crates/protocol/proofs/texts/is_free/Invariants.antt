use Rattle.std.proofs.Common.{◌≡◌, drop}
use Rattle.protocol.specs.Texts.{free}
use Rattle.protocol.proofs.texts.is_free.Given as goal

abbrev pub invariant-loop-b : goal.invariant-loop-b
invariant-loop-b l = free (drop l.b-index l.bytes) ≡ free l.bytes
