-- The words of a packet's head.
--     version_word v, version_named word        the word for a version, and back
--     direction_word d, direction_named word    the word for request or answer, and back
--     command_number c, command_numbered n      the number of a command, and back
use Rattle.std.specs.Prelude.{ℕ, cond, List, Some, None, codes, Option, ◌==◌}
use Rattle.std.specs.Str.{bytes_eq}
use Rattle.field.specs.declared.words.Version.{Version}
use Rattle.field.specs.declared.words.Version.TheVariants.{V10, V11}
use Rattle.field.specs.declared.words.Direction.{Direction}
use Rattle.field.specs.declared.words.Direction.TheVariants.{Request, Answer}
use Rattle.field.specs.declared.words.Command.{Command}
use Rattle.field.specs.declared.words.Command.TheVariants.{Read, Write, Discovery}

abbrev pub version_word : Version → List ℕ
version_word V10 = codes "1.0"
version_word V11 = codes "1.1"

abbrev pub version_named : List ℕ → Option Version
version_named word = cond (bytes_eq word (codes "1.0")) (Some V10) (cond (bytes_eq word (codes "1.1")) (Some V11) None)

abbrev pub direction_word : Direction → List ℕ
direction_word Request = codes "R"
direction_word Answer = codes "A"

abbrev pub direction_named : List ℕ → Option Direction
direction_named word = cond (bytes_eq word (codes "R")) (Some Request) (cond (bytes_eq word (codes "A")) (Some Answer) None)

abbrev pub command_number : Command → ℕ
command_number Read = 1
command_number Write = 2
command_number Discovery = 3

abbrev pub command_numbered : ℕ → Option Command
command_numbered n = cond (n == 1) (Some Read) (cond (n == 2) (Some Write) (cond (n == 3) (Some Discovery) None))
