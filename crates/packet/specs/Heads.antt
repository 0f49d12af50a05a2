-- The head of a packet: its first four fields.
use Rattle.std.specs.Prelude.{ℕ, cond, List, drop, Some, None, Ok, codes, Option, Result}
use Rattle.protocol.specs.declared.refusal.Refusal.{Refusal}
use Rattle.protocol.specs.declared.refusal.Refusal.TheVariants as R
use Rattle.field.specs.Fields.{first}
use Rattle.field.specs.Numerals.{numeral}
use Rattle.field.specs.declared.words.Version.{Version}
use Rattle.field.specs.declared.words.Version.TheVariants.{V10, V11}
use Rattle.field.specs.declared.words.Command.{Command}
use Rattle.field.specs.declared.words.Command.TheVariants.{Read, Write, Discovery}
use Rattle.packet.specs.declared.head.Head.{Head}
use Rattle.packet.specs.Rules.{ruled, then, or_fault, is_word}
use Rattle.field.specs.Words.{version_named, direction_named, command_numbered}

-- a version may be 1.0 only beside a command other than 3
abbrev pub not_old : Option (List ℕ) → Version → Option Version
not_old command V10 = cond (is_word (codes "3") command) None (Some V10)
not_old command V11 = Some V11

-- the version that the first field names beside the command
abbrev pub version_beside : Option (List ℕ) → Option (List ℕ) → Option Version
version_beside command version = then (ruled version_named version) (not_old command)

-- 1.0 does not go with Discovery
abbrev pub Goes : Version → Command → Type 0
Goes V11 command = Unit {0}
Goes V10 Read = Unit {0}
Goes V10 Write = Unit {0}
Goes V10 Discovery = ⊥

-- the head of four fields, or the refusal of the first at fault
abbrev pub head_by : Option (List ℕ) → Option (List ℕ) → Option (List ℕ) → Option (List ℕ) → Result Head Refusal
head_by version direction number command =
    or_fault (R.Head 0) (version_beside command version) (λ v.
    or_fault (R.Head 1) (ruled direction_named direction) (λ d.
    or_fault (R.Head 2) (ruled (numeral 65535) number) (λ n.
    or_fault (R.Head 3) (ruled (numeral 255) command) (λ m.
    or_fault (R.Command 3) (command_numbered m) (λ c.
    Ok (record { version = v; direction = d; number = n; command = c }))))))

-- the head of a packet's fields
abbrev pub head_of : List (List ℕ) → Result Head Refusal
head_of fs = head_by (first fs) (first (drop 1 fs)) (first (drop 2 fs)) (first (drop 3 fs))
