-- What is told in a line.
--     code_word c         a code, as a group of a write answer
--     reading_word x      a group of a read answer: CODE:TYPE:TEXT
--     change_word w       a group of a write request: I=TEXT
--     packet_line m       a packet
use Rattle.std.specs.Prelude.{ℕ, List, [], ◌++◌, codes, decimal}
use Rattle.std.specs.List.{flat_map}
use Rattle.protocol.specs.Words.{kind_word, code_number, number_word}
use Rattle.protocol.specs.declared.code.Code.{Code}
use Rattle.field.specs.Words.{version_word}
use Rattle.field.specs.declared.words.Direction.{Direction}
use Rattle.field.specs.declared.words.Direction.TheVariants as D
use Rattle.field.specs.declared.words.Command.{Command}
use Rattle.field.specs.declared.words.Command.TheVariants as C
use Rattle.packet.specs.Groups.{Readout, found, lacking}
use Rattle.packet.specs.Messages.{Content, read_request, write_request, discovery_request, read_answer, write_answer, discovery_answer, Message, direction_of, command_of}
use Rattle.notation.specs.Strings.{noted}

abbrev pub code_word : Code → List ℕ
code_word c = number_word (code_number c)

-- CODE:TYPE:TEXT
abbrev pub group_text : ℕ → List ℕ → List ℕ → List ℕ
group_text code kind text = decimal code ++ (codes ":" ++ (kind ++ (codes ":" ++ noted text)))

-- Nil and 0 stand beside a code other than 0
abbrev pub reading_text : Readout → List ℕ
reading_text (found kind text) = group_text 0 (kind_word kind) text
reading_text (lacking code) = group_text (code_number code) (codes "Nil") (codes "0")

abbrev pub reading_word : Readout → List ℕ
reading_word x = codes " " ++ reading_text x

abbrev pub change_text : ℕ × List ℕ → List ℕ
change_text w = decimal w.0 ++ (codes "=" ++ noted w.1)

abbrev pub change_word : ℕ × List ℕ → List ℕ
change_word w = codes " " ++ change_text w

-- request or answer
abbrev pub direction_name : Direction → List ℕ
direction_name D.Request = codes "request"
direction_name D.Answer = codes "answer"

abbrev pub command_name : Command → List ℕ
command_name C.Read = codes "read"
command_name C.Write = codes "write"
command_name C.Discovery = codes "discovery"

-- the groups; a Discovery request's are always the same
abbrev pub group_words : Content → List ℕ
group_words (read_request is) = flat_map number_word is
group_words (write_request ws) = flat_map change_word ws
group_words discovery_request = []
group_words (read_answer xs) = flat_map reading_word xs
group_words (write_answer cs) = flat_map code_word cs
group_words (discovery_answer xs) = flat_map reading_word xs

abbrev pub packet_line : Message → List ℕ
packet_line m =
    direction_name (direction_of m.content)
    ++ (codes " " ++ (version_word m.version ++ (number_word m.number ++ (codes " " ++ (command_name (command_of m.content) ++ group_words m.content)))))
