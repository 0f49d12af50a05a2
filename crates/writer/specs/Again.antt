-- Writing again what was read.
--     again m            the message, with each value of an answer in its one spelling
--     meant m            what a message means, apart from how its values are spelled
--     rewritten bytes row   what writing the packet again into a row gives
use Rattle.std.specs.Prelude.{ℕ, cond, List, [], ◌∷◌, map, length, Ok, Err, Option, Result, nat_lt}
use Rattle.std.specs.Option.{option_map, unwrap_or}
use Rattle.protocol.specs.declared.code.Code.{Code}
use Rattle.protocol.specs.declared.kind.Kind.{Kind}
use Rattle.protocol.specs.declared.refusal.Refusal.{Refusal}
use Rattle.protocol.specs.declared.refusal.Refusal.TheVariants.{ShortMemory}
use Rattle.value.specs.Values.{Datum, value_read, spelled}
use Rattle.field.specs.declared.words.Version.{Version}
use Rattle.field.specs.declared.words.Direction.{Direction}
use Rattle.field.specs.declared.words.Command.{Command}
use Rattle.packet.specs.Groups.{Readout, found, lacking}
use Rattle.packet.specs.Messages.{Message, Content, read_request, write_request, discovery_request, read_answer, write_answer, discovery_answer, direction_of, command_of, packet_of}
use Rattle.writer.specs.Bytes.{bytes_of}
use Rattle.writer.specs.Written.{Writing, refused, at_start}

-- the one spelling of the value that the text writes
abbrev pub respelled : Kind → List ℕ → List ℕ
respelled kind text = unwrap_or (option_map spelled (value_read kind text)) []

-- what a read answer tells of one element, with the value in its one spelling
abbrev pub again_readout : Readout → Readout
again_readout (found kind text) = found kind (respelled kind text)
again_readout (lacking code) = lacking code

-- each value of an answer in its one spelling; a request stays as it is
abbrev pub again_content : Content → Content
again_content (read_request indices) = read_request indices
again_content (write_request writes) = write_request writes
again_content discovery_request = discovery_request
again_content (read_answer readouts) = read_answer (map again_readout readouts)
again_content (write_answer answers) = write_answer answers
again_content (discovery_answer readouts) = discovery_answer (map again_readout readouts)

-- the message as it is written again
abbrev pub again : Message → Message
again m = record { version = m.version; number = m.number; content = again_content m.content }

-- what one group means: an index, an index and a text, a code, or a type and the value that its text writes
pub data Group : Type 0 where
  index : ℕ → Group
  write : ℕ → List ℕ → Group
  code : Code → Group
  value : Kind → Option Datum → Group

-- what a read answer tells of one element
abbrev pub readout_meant : Readout → Group
readout_meant (found kind text) = value kind (value_read kind text)
readout_meant (lacking answer) = code answer

-- what the groups mean, one after the other
abbrev pub groups_meant : Content → List Group
groups_meant (read_request indices) = map index indices
groups_meant (write_request writes) = map (λ w. write w.0 w.1) writes
groups_meant discovery_request = index 2 ∷ index 3 ∷ []
groups_meant (read_answer readouts) = map readout_meant readouts
groups_meant (write_answer answers) = map code answers
groups_meant (discovery_answer readouts) = map readout_meant readouts

-- what a packet means
pub record Meaning : Type 0 where
  pub version : Version
  pub direction : Direction
  pub number : ℕ
  pub command : Command
  pub groups : List Group

-- the meaning of a message: values in place of their texts
abbrev pub meant : Message → Meaning
meant m = record { version = m.version; direction = direction_of m.content; number = m.number; command = command_of m.content; groups = groups_meant m.content }

-- what comes of a packet that was read, and of one that was not
abbrev pub rewritten_as : Result Message Refusal → List ℕ → Writing
rewritten_as (Err reason) row = refused reason row
rewritten_as (Ok m) row = at_start (bytes_of (again m)) row

-- 2 where the row is short, then what reading the packet refuses, or else the message again
abbrev pub rewritten : List ℕ → List ℕ → Writing
rewritten bytes row = cond (nat_lt (length row) 512) (refused ShortMemory row) (rewritten_as (packet_of bytes) row)
