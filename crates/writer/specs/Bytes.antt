-- What a message is written as.
--     message_fields m   its fields: the head, and those of each group
--     bytes_of m         the packet: the fields, parted by colons, between braces
use Rattle.std.specs.Prelude.{ℕ, List, [], ◌∷◌, ◌++◌, codes, decimal}
use Rattle.std.specs.List.{flat_map}
use Rattle.protocol.specs.Words.{kind_word, code_number}
use Rattle.protocol.specs.declared.code.Code.{Code}
use Rattle.field.specs.declared.words.Version.{Version}
use Rattle.field.specs.declared.words.Direction.{Direction}
use Rattle.field.specs.declared.words.Command.{Command}
use Rattle.field.specs.Words.{version_word, direction_word, command_number}
use Rattle.packet.specs.Groups.{Readout, found, lacking}
use Rattle.packet.specs.Messages.{Message, Content, read_request, write_request, discovery_request, read_answer, write_answer, discovery_answer, direction_of, command_of}

-- the field of an index
abbrev pub index_fields : ℕ → List (List ℕ)
index_fields index = decimal index ∷ []

-- the fields of an index and a text
abbrev pub write_fields : ℕ × List ℕ → List (List ℕ)
write_fields w = decimal w.0 ∷ w.1 ∷ []

-- the field of a code
abbrev pub code_fields : Code → List (List ℕ)
code_fields code = decimal (code_number code) ∷ []

-- code 0 with the type and the text, or another code with Nil and 0
abbrev pub readout_fields : Readout → List (List ℕ)
readout_fields (found kind text) = codes "0" ∷ kind_word kind ∷ text ∷ []
readout_fields (lacking code) = decimal (code_number code) ∷ codes "Nil" ∷ codes "0" ∷ []

-- the fields of a payload
abbrev pub content_fields : Content → List (List ℕ)
content_fields (read_request indices) = flat_map index_fields indices
content_fields (write_request writes) = flat_map write_fields writes
content_fields discovery_request = codes "2" ∷ codes "3" ∷ []
content_fields (read_answer readouts) = flat_map readout_fields readouts
content_fields (write_answer answers) = flat_map code_fields answers
content_fields (discovery_answer readouts) = flat_map readout_fields readouts

-- the four fields of a head
abbrev pub head_fields : Version → Direction → ℕ → Command → List (List ℕ)
head_fields version direction number command = version_word version ∷ direction_word direction ∷ decimal number ∷ decimal (command_number command) ∷ []

-- the fields of a message, those of its head first
abbrev pub message_fields : Message → List (List ℕ)
message_fields m = head_fields m.version (direction_of m.content) m.number (command_of m.content) ++ content_fields m.content

-- a field behind a colon
abbrev pub colon : List ℕ → List ℕ
colon field = 58 ∷ field

-- fields with a colon between each two
abbrev pub parted : List (List ℕ) → List ℕ
parted [] = []
parted (f ∷ fs) = f ++ flat_map colon fs

-- the packet that a message is written as
abbrev pub bytes_of : Message → List ℕ
bytes_of m = 123 ∷ (parted (message_fields m) ++ (125 ∷ []))
