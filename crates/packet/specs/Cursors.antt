-- What the cursors over a payload have still to hand out.
use Rattle.std.specs.Prelude.{ℕ, List, Some, None, Ok, Err, Option, Result}
use Rattle.std.specs.Iterator.{YieldsFirstBy}
use Rattle.protocol.specs.declared.code.Code.{Code}
use Rattle.field.specs.declared.part.Part.{Part}
use Rattle.field.specs.Parts.{part_bytes, fields_left, Hands, Onward}
use Rattle.packet.specs.declared.groups.Groups.{Groups}
use Rattle.packet.specs.declared.indices.IndexGroup.{IndexGroup}
use Rattle.packet.specs.declared.writes.Write.{Write}
use Rattle.packet.specs.declared.writes.WriteGroup.{WriteGroup}
use Rattle.packet.specs.declared.codes.CodeGroup.{CodeGroup}
use Rattle.packet.specs.declared.readings.Found.{Found}
use Rattle.packet.specs.declared.readings.ReadingGroup.{ReadingGroup}
use Rattle.packet.specs.Rules.{then}
use Rattle.packet.specs.Groups.{index_group, write_group, code_group, reading_group, Readout, found, lacking, ahead}

-- an index and a text
abbrev pub write_of : Write → ℕ × List ℕ
write_of w = (w.index, part_bytes w.text)

-- a type and a text
abbrev pub found_of : Found → Readout
found_of x = found x.kind (part_bytes x.text)

-- what a read answer tells of one element
abbrev pub readout_of : Result Found Code → Readout
readout_of (Ok x) = found_of x
readout_of (Err code) = lacking code

-- the part that holds its text
abbrev pub reading_part : Result Found Code → Option Part
reading_part (Ok x) = Some x.text
reading_part (Err code) = None

-- the groups that a cursor has still to hand out
abbrev pub groups_ahead : {G X : Type 0} → ℕ → (List (List ℕ) → Result X ℕ) → Groups G → List X
groups_ahead width group c = ahead width group c.left (fields_left c.fields)

-- a cursor handed out the first of them, or came to its end; in whichever packet it stood before, its part stands, and so does
-- the cursor after
abbrev pub HandsOut : {G A X : Type 0} → (A → X) → (A → Option Part) → (Groups G → List X) → Groups G → Option A → Groups G → Type 0
HandsOut said part left before group after = YieldsFirstBy said left before group after × Hands before.fields (then group part) × Onward before.fields after.fields

-- the indices that a cursor has still to hand out
abbrev pub indices_ahead : Groups IndexGroup → List ℕ
indices_ahead = groups_ahead 1 index_group

-- the writes that a cursor has still to hand out
abbrev pub writes_ahead : Groups WriteGroup → List (ℕ × List ℕ)
writes_ahead = groups_ahead 2 write_group

-- the codes that a cursor has still to hand out
abbrev pub codes_ahead : Groups CodeGroup → List Code
codes_ahead = groups_ahead 1 code_group

-- the readings that a cursor has still to hand out
abbrev pub readings_ahead : Groups ReadingGroup → List Readout
readings_ahead = groups_ahead 3 reading_group
