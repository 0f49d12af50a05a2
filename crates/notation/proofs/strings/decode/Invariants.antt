use Rattle.std.proofs.Common.{◌≡◌, vec_items}
use Rattle.notation.specs.Strings.{bytes_of}
use Rattle.notation.proofs.Notes.{behind}
use Rattle.notation.proofs.strings.decode.Given as goal

abbrev pub invariant-loop-byte : goal.invariant-loop-byte
invariant-loop-byte l =
    (goal.iterator-loop-byte).can_next l.byte-iterator ×
    (goal.iterator-loop-byte).is_finite l.byte-iterator × (behind (vec_items l.bytes) (bytes_of l.byte-iterator.0.now) ≡ bytes_of l.fn.word)
