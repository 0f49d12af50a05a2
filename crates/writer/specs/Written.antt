-- What writing a message into a row gives.
use Rattle.std.specs.Prelude.{◌≡◌, ℕ, ◌≤◌, Bool, cond, true, List, ◌++◌, length, drop, IfOk, Ok, Err, Option, Result, nat_lt}
use Rattle.std.specs.Iterator.{Drains}
use Rattle.std.specs.List.{flat_map, AllByRecursion}
use Rattle.protocol.specs.declared.refusal.Refusal.{Refusal}
use Rattle.protocol.specs.declared.refusal.Refusal.TheVariants.{ShortMemory, Limit}
use Rattle.packet.specs.declared.head.Head.{Head}
use Rattle.packet.specs.Heads.{Goes}
use Rattle.packet.specs.Messages.{Message, Bounded, Kept, direction_of, command_of, packet_of}
use Rattle.writer.specs.Bytes.{content_fields, bytes_of}

-- the length of what was written or the reason of the refusal, and the row afterwards
pub record Writing : Type 0 where
  pub told : Result ℕ Refusal
  pub row : List ℕ

-- the reason, and the row as it was
abbrev pub refused : Refusal → List ℕ → Writing
refused reason row = record { told = Err reason; row = row }

-- the packet at the row's start, and the rest of the row as it was
abbrev pub at_start : List ℕ → List ℕ → Writing
at_start bytes row = record { told = Ok (length bytes); row = bytes ++ drop (length bytes) row }

-- 2 where the row is short, then 13 where the order is not allowed
abbrev pub written : Bool → Message → List ℕ → Writing
written allowed m row = cond (nat_lt (length row) 512) (refused ShortMemory row) (cond allowed (at_start (bytes_of m) row) (refused Limit row))

-- a packet of this length is short enough, and the message is read back from it
abbrev pub ReadsBack : Message → ℕ → Type 0
ReadsBack m n = (n ≤ 485) × (packet_of (bytes_of m) ≡ Ok m)

-- what a call told of writing a message, and the row that it left
pub record Wrote (allowed : Bool) (m : Message) (before after : List ℕ) (answer : Result ℕ Refusal) : Type 0 where
  pub told : answer ≡ (written allowed m before).told
  pub row : after ≡ (written allowed m before).row
  pub back : IfOk answer (ReadsBack m)

-- the head of a message
abbrev pub message_head : Message → Head
message_head m = record { version = m.version; direction = direction_of m.content; number = m.number; command = command_of m.content }

-- a message that keeps the rules of a packet
pub record Ruled (m : Message) : Type 0 where
  pub bounded : Bounded m
  pub goes : Goes m.version (command_of m.content)
  pub kept : Kept m.content

-- the groups have the fields of the message's, which keeps the rules if it is allowed
pub record Spells {G : Type 0} (fields : G → List (List ℕ)) (groups : List G) (allowed : Bool) (m : Message) : Type 0 where
  pub same : flat_map fields groups ≡ content_fields m.content
  pub ruled : allowed ≡ true → Ruled m

-- whenever all groups came, they spell the message
abbrev pub AlwaysSpells : {I G : Type 0} → (I → Option G → I → Type 0) → (G → List (List ℕ)) → (G → Type 0) → I → Bool → Message → Type 0
AlwaysSpells {G = G} gives fields fits groups allowed m = (xs : List G) → Drains gives groups xs → AllByRecursion fits xs → Spells fields xs allowed m
