use Rattle.std.proofs.Common.{◌≡◌, ◌*◌, ◌≤◌, take}
use Rattle.std.specs.List.{flat_map}
use Rattle.notation.specs.Strings.{noted_byte}
use Rattle.notation.proofs.strings.note.Given as goal

abbrev pub invariant-loop-b : goal.invariant-loop-b
invariant-loop-b l = record { within : l.end ≤ 4 * l.b-index; noted : take l.end l.room ≡ flat_map noted_byte (take l.b-index l.bytes) }
