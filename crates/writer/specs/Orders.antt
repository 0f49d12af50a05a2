-- What a writer is handed, and the messages that come of it.
--     counted xs                       there are 1 to 10 of them
--     changes_allowed, readings_allowed   and each of them can be written
--     asked n c, answered v n c        a request of ours, and an answer
use Rattle.std.specs.Prelude.{◌≡◌, ℕ, Bool, true, not, ◌&&◌, List, [], length, is_some, Ok, Err, Result, ◌==◌, nat_le}
use Rattle.std.specs.List.{list_all}
use Rattle.std.specs.Option.{option_map, unwrap_or}
use Rattle.protocol.specs.Held.{text_bytes}
use Rattle.protocol.specs.Words.{code_number}
use Rattle.protocol.specs.declared.code.Code.{Code}
use Rattle.value.specs.Values.{value_read, spelled}
use Rattle.value.specs.Meant.{kind_of, datum_of}
use Rattle.value.specs.declared.value.Value.{Value}
use Rattle.field.specs.declared.words.Version.{Version}
use Rattle.field.specs.declared.words.Version.TheVariants.{V11}
use Rattle.field.specs.declared.words.Direction.TheVariants.{Request, Answer}
use Rattle.field.specs.declared.words.Command.{Command}
use Rattle.packet.specs.declared.head.Head.{Head}
use Rattle.packet.specs.Groups.{Readout, found, lacking}
use Rattle.packet.specs.Messages.{Message, Content}
use Rattle.writer.specs.declared.change.Change.{Change}

-- 1 to 10
abbrev pub counted : {X : Type 0} → List X → Bool
counted xs = nat_le 1 (length xs) && nat_le (length xs) 10

-- the index and the text of a change; of one whose text is none, no text
abbrev pub change_of : Change → ℕ × List ℕ
change_of c = (c.index, unwrap_or (option_map text_bytes c.text) [])

-- each text is one
abbrev pub all_texts : List Change → Bool
all_texts cs = list_all (λ c. is_some c.text) cs

-- 1 to 10 changes, each with a text
abbrev pub changes_allowed : List Change → Bool
changes_allowed cs = counted cs && all_texts cs

-- what is told of a read: the value in its one spelling, or the code
abbrev pub readout_of : Result Value Code → Readout
readout_of (Ok v) = found (kind_of v) (spelled (datum_of v))
readout_of (Err code) = lacking code

-- the text, if there is one, writes a value of its type
abbrev pub Readable : Readout → Type 0
Readable (found kind text) = is_some (value_read kind text) ≡ true
Readable (lacking code) = Unit {0}

-- a value, or a code other than 0
abbrev pub told : Result Value Code → Bool
told (Ok v) = true
told (Err code) = not (code_number code == 0)

-- each of them is a value, or a code other than 0
abbrev pub all_told : List (Result Value Code) → Bool
all_told xs = list_all told xs

-- 1 to 10 readings, each of them a value or a code other than 0
abbrev pub readings_allowed : List (Result Value Code) → Bool
readings_allowed xs = counted xs && all_told xs

-- the head of a request of ours, which has version 1.1
abbrev pub asked_head : ℕ → Command → Head
asked_head number command = record { version = V11; direction = Request; number = number; command = command }

-- the head of an answer
abbrev pub answered_head : Version → ℕ → Command → Head
answered_head version number command = record { version = version; direction = Answer; number = number; command = command }

-- a request of ours, which has version 1.1
abbrev pub asked : ℕ → Content → Message
asked number content = record { version = V11; number = number; content = content }

-- an answer in the version of its request
abbrev pub answered : Version → ℕ → Content → Message
answered version number content = record { version = version; number = number; content = content }
