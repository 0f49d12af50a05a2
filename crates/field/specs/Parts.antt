-- Parts of a packet, and the fields that a cursor has still to hand out.
use Rattle.std.specs.Prelude.{◌≡◌, ℕ, ◌-◌, ◌≤◌, List, [], length, take, drop, Some, None, Ok, Err, Option, Result}
use Rattle.std.specs.Iterator.{YieldsFirstBy}
use Rattle.protocol.specs.declared.refusal.Refusal.{Refusal}
use Rattle.field.specs.declared.part.Part.{Part}
use Rattle.field.specs.declared.fields.Fields.{Fields}
use Rattle.field.specs.Fields.{fields}

-- the bytes of a part
abbrev pub part_bytes : Part → List ℕ
part_bytes p = p.text.now

-- how many bytes of the packet stand in front of a part
abbrev pub part_start : Part → ℕ
part_start p = p.end - length (part_bytes p)

-- a part is what stands in the packet at its place
abbrev pub Stands : List ℕ → Part → Type 0
Stands packet p = (length (part_bytes p) ≤ p.end) × (part_bytes p ≡ take (length (part_bytes p)) (drop (part_start p) packet))

-- so is one that may be missing
abbrev pub Found : List ℕ → Option Part → Type 0
Found packet None = Unit {0}
Found packet (Some p) = Stands packet p

-- what a cursor has still to hand out stands in the packet
abbrev pub Within : List ℕ → Fields → Type 0
Within packet f = Found packet f.rest

-- in whichever packet the cursor stands, so does the part that it hands out
abbrev pub Hands : Fields → Option Part → Type 0
Hands f p = (packet : List ℕ) → Within packet f → Found packet p

-- in whichever packet the cursor stood before, it stands after
abbrev pub Onward : Fields → Fields → Type 0
Onward before after = (packet : List ℕ) → Within packet before → Within packet after

-- the fields of a rest that may be missing
abbrev pub fields_in : Option Part → List (List ℕ)
fields_in None = []
fields_in (Some p) = fields (part_bytes p)

-- the fields that a cursor has still to hand out
abbrev pub fields_left : Fields → List (List ℕ)
fields_left f = fields_in f.rest

-- a cursor handed out the first of them, or came to its end; in whichever packet it stood before, the part stands, and so does
-- the cursor after
abbrev pub HandsOut : Fields → Option Part → Fields → Type 0
HandsOut before field after = YieldsFirstBy part_bytes fields_left before field after × Hands before field × Onward before after

-- the same of a reading that may be refused
abbrev pub told_fields : Result Fields Refusal → Result (List (List ℕ)) Refusal
told_fields (Ok f) = Ok (fields_left f)
told_fields (Err e) = Err e
