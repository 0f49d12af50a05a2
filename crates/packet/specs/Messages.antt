-- What a packet says: `packet_of` reads any bytes as a message, or tells the ground on which they are
-- refused.
use Rattle.std.specs.Prelude.{◌≡◌, ℕ, ◌<◌, ◌≤◌, List, length, drop, Ok, Err, Result}
use Rattle.std.specs.List.{AllByRecursion}
use Rattle.protocol.specs.declared.code.Code.{Code}
use Rattle.protocol.specs.declared.refusal.Refusal.{Refusal}
use Rattle.protocol.specs.declared.refusal.Refusal.TheVariants as R
use Rattle.field.specs.Frames.{fields_of}
use Rattle.field.specs.declared.words.Version.{Version}
use Rattle.field.specs.declared.words.Direction.{Direction}
use Rattle.field.specs.declared.words.Direction.TheVariants.{Request, Answer}
use Rattle.field.specs.declared.words.Command.{Command}
use Rattle.field.specs.declared.words.Command.TheVariants.{Read, Write, Discovery}
use Rattle.packet.specs.declared.head.Head.{Head}
pub use Rattle.packet.specs.Rules.{with_ok}
use Rattle.packet.specs.Heads.{head_of}
use Rattle.packet.specs.Groups.{index_group, write_group, code_group, reading_group, Readout, groups, discovery_of, KeptWrite, KeptReadout}

-- what is asked or answered
pub data Content : Type 0 where
  read_request : List ℕ → Content
  write_request : List (ℕ × List ℕ) → Content
  discovery_request : Content
  read_answer : List Readout → Content
  write_answer : List Code → Content
  discovery_answer : List Readout → Content

-- what a packet says: its version, its number, and what it asks or answers
pub record Message : Type 0 where
  pub version : Version
  pub number : ℕ
  pub content : Content

-- whether something is asked or answered
abbrev pub direction_of : Content → Direction
direction_of (read_request is) = Request
direction_of (write_request ws) = Request
direction_of discovery_request = Request
direction_of (read_answer xs) = Answer
direction_of (write_answer cs) = Answer
direction_of (discovery_answer xs) = Answer

-- what is asked or answered about
abbrev pub command_of : Content → Command
command_of (read_request is) = Read
command_of (write_request ws) = Write
command_of discovery_request = Discovery
command_of (read_answer xs) = Read
command_of (write_answer cs) = Write
command_of (discovery_answer xs) = Discovery

-- how many groups there are
abbrev pub count_of : Content → ℕ
count_of (read_request is) = length is
count_of (write_request ws) = length ws
count_of discovery_request = 2
count_of (read_answer xs) = length xs
count_of (write_answer cs) = length cs
count_of (discovery_answer xs) = length xs

-- the number is one of 16 bits, and there are 1 to 10 groups, just 2 in Discovery
pub record Bounded (m : Message) : Type 0 where
  pub number : m.number < 65536
  pub some : 1 ≤ count_of m.content
  pub few : count_of m.content ≤ 10
  pub both : command_of m.content ≡ Discovery → count_of m.content ≡ 2

-- each group keeps its rule
abbrev pub Kept : Content → Type 0
Kept (read_request is) = AllByRecursion (λ i. i < 65536) is
Kept (write_request ws) = AllByRecursion KeptWrite ws
Kept discovery_request = Unit {0}
Kept (read_answer xs) = AllByRecursion KeptReadout xs
Kept (write_answer cs) = Unit {0}
Kept (discovery_answer xs) = AllByRecursion KeptReadout xs

-- the payload's fields, read as direction and command say, or the first of them at fault
abbrev pub content_by : Direction → Command → List (List ℕ) → Result Content ℕ
content_by Request Read fs = with_ok read_request (groups 1 index_group 4 1 fs 10)
content_by Request Write fs = with_ok write_request (groups 2 write_group 4 1 fs 10)
content_by Request Discovery fs = with_ok (λ _. discovery_request) (discovery_of fs)
content_by Answer Read fs = with_ok read_answer (groups 3 reading_group 4 1 fs 10)
content_by Answer Write fs = with_ok write_answer (groups 1 code_group 4 1 fs 10)
content_by Answer Discovery fs = with_ok discovery_answer (groups 3 reading_group 4 2 fs 2)

-- a head with the payload behind it
abbrev pub message_by : Head → Result Content ℕ → Result Message Refusal
message_by head (Err field) = Err (R.Payload field)
message_by head (Ok content) = Ok (record { version = head.version; number = head.number; content = content })

-- the message of a head and a payload's fields, or the ground of the refusal
abbrev pub after_head : List (List ℕ) → Result Head Refusal → Result Message Refusal
after_head payload (Err refusal) = Err refusal
after_head payload (Ok head) = message_by head (content_by head.direction head.command payload)

-- the message of a packet's fields, or the ground of the refusal
abbrev pub after_frame : Result (List (List ℕ)) Refusal → Result Message Refusal
after_frame (Err refusal) = Err refusal
after_frame (Ok fs) = after_head (drop 4 fs) (head_of fs)

-- the message that the bytes are, or the first ground on which they are refused
abbrev pub packet_of : List ℕ → Result Message Refusal
packet_of bytes = after_frame (fields_of bytes)
