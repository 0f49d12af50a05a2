-- The rules of single fields, each of which may be missing.
use Rattle.std.specs.Prelude.{ℕ, Bool, false, cond, List, Some, None, Ok, Err, Option, Result}
use Rattle.std.specs.Option.{option_map}
use Rattle.std.specs.Str.{bytes_eq}
use Rattle.protocol.specs.declared.code.Code.{Code}
use Rattle.protocol.specs.declared.kind.Kind.{Kind}
use Rattle.protocol.specs.Texts.{sized}
use Rattle.protocol.specs.Words.{code_numbered}
use Rattle.value.specs.Values.{value_read}
use Rattle.field.specs.declared.fields.Fields.{Fields}
use Rattle.field.specs.declared.part.Part.{Part}
use Rattle.field.specs.Numerals.{numeral}
use Rattle.field.specs.Parts.{Stands, Found, Within}

-- what a second rule makes of what a first one gave
abbrev pub then : {X Y : Type 0} → Option X → (X → Option Y) → Option Y
then None rule = None
then (Some x) rule = rule x

-- what a rule makes of a field, if the field is there
abbrev pub ruled : {X : Type 0} → (List ℕ → Option X) → Option (List ℕ) → Option X
ruled rule field = then field rule

-- what was made of a field, or else the fault
abbrev pub or_fault : {X Y E : Type 0} → E → Option X → (X → Result Y E) → Result Y E
or_fault fault None next = Err fault
or_fault fault (Some x) next = next x

-- what is made of what was read
abbrev pub with_ok : {X Y E : Type 0} → (X → Y) → Result X E → Result Y E
with_ok f (Ok x) = Ok (f x)
with_ok f (Err e) = Err e

-- the field is the word
abbrev pub is_word : List ℕ → Option (List ℕ) → Bool
is_word word None = false
is_word word (Some field) = bytes_eq field word

-- a text of 1 to 40 bytes
abbrev pub sized_text : List ℕ → Option (List ℕ)
sized_text field = cond (sized field) (Some field) None

-- an answer code, 0 to 3
abbrev pub code_of : List ℕ → Option Code
code_of field = then (numeral 3 field) code_numbered

-- a text that writes a value of the type
abbrev pub value_text : Kind → List ℕ → Option (List ℕ)
value_text kind field = option_map (λ _. field) (value_read kind field)

-- in whichever packet the one part stands, so does the other
abbrev pub Passes : Option Part → Option Part → Type 0
Passes before after = (packet : List ℕ) → Found packet before → Found packet after

-- in whichever packet the part stands, so does the cursor
abbrev pub Keeps : Part → Fields → Type 0
Keeps part cursor = (packet : List ℕ) → Stands packet part → Within packet cursor
