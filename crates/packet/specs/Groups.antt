-- The groups of a payload. A group's rule takes the fields from the group's first on, and gives what
-- the group says, or the place in the group of the first field at fault.
--     index_group, write_group, code_group, reading_group    the rules
--     groups                                  all groups of a payload, or the first field at fault
--     ahead                                   the groups that a cursor has still to hand out
--     KeptWrite, KeptReadout                what holds of each group that is read
use Rattle.std.specs.Prelude.{◌≡◌, ℕ, zero, suc, ◌+◌, ◌-◌, ◌<◌, true, cond, List, [], ◌∷◌, length, drop, is_some, Ok, Err, codes, Option, Result, ◌==◌}
use Rattle.protocol.specs.declared.code.Code.{Code}
use Rattle.protocol.specs.declared.code.Code.TheVariants as C
use Rattle.protocol.specs.declared.kind.Kind.{Kind}
use Rattle.protocol.specs.Texts.{textual}
use Rattle.protocol.specs.Words.{kind_named, code_number}
use Rattle.value.specs.Values.{value_read}
use Rattle.field.specs.Fields.{first}
use Rattle.field.specs.Numerals.{numeral}
use Rattle.packet.specs.Rules.{ruled, or_fault, is_word, sized_text, code_of, value_text}

-- an index
abbrev pub index_group : List (List ℕ) → Result ℕ ℕ
index_group fs = or_fault 0 (ruled (numeral 65535) (first fs)) Ok

-- an index and a text
abbrev pub write_group : List (List ℕ) → Result (ℕ × List ℕ) ℕ
write_group fs =
    or_fault 0 (ruled (numeral 65535) (first fs)) (λ index.
    or_fault 1 (ruled sized_text (first (drop 1 fs))) (λ text.
    Ok (index, text)))

-- a code
abbrev pub code_group : List (List ℕ) → Result Code ℕ
code_group fs = or_fault 0 (ruled code_of (first fs)) Ok

-- what a read answer tells of one element: the type and the text of its value, or the code that says why there is none
pub data Readout : Type 0 where
  found : Kind → List ℕ → Readout
  lacking : Code → Readout

-- a code other than 0 stands with Nil and 0
abbrev pub lacking_by : Code → Option (List ℕ) → Option (List ℕ) → Result Readout ℕ
lacking_by code word text = cond (is_word (codes "Nil") word) (cond (is_word (codes "0") text) (Ok (lacking code)) (Err 2)) (Err 1)

-- code 0 stands with one of the nine types and a text that writes a value of it
abbrev pub found_by : Option (List ℕ) → Option (List ℕ) → Result Readout ℕ
found_by word text =
    or_fault 1 (ruled kind_named word) (λ kind.
    or_fault 2 (ruled (value_text kind) text) (λ value.
    Ok (found kind value)))

-- what stands with a code: a value with 0, and none with another
abbrev pub readout_by : Code → Option (List ℕ) → Option (List ℕ) → Result Readout ℕ
readout_by C.Done word text = found_by word text
readout_by C.NotFound word text = lacking_by C.NotFound word text
readout_by C.WrongType word text = lacking_by C.WrongType word text
readout_by C.OutsideLimits word text = lacking_by C.OutsideLimits word text

-- a code, a type and a value
abbrev pub reading_by : Option (List ℕ) → Option (List ℕ) → Option (List ℕ) → Result Readout ℕ
reading_by code word text = or_fault 0 (ruled code_of code) (λ c. readout_by c word text)

-- a group of a read answer
abbrev pub reading_group : List (List ℕ) → Result Readout ℕ
reading_group fs = reading_by (first fs) (first (drop 1 fs)) (first (drop 2 fs))

-- what comes of a group that begins with field k, or the field at fault in it
abbrev pub or_within : {X Y : Type 0} → ℕ → Result X ℕ → (X → Result Y ℕ) → Result Y ℕ
or_within k (Err place) next = Err (k + place)
or_within k (Ok x) next = next x

-- one more group in front
abbrev pub in_front : {X : Type 0} → X → Result (List X) ℕ → Result (List X) ℕ
in_front x (Err k) = Err k
in_front x (Ok xs) = Ok (x ∷ xs)

-- the group, if it is one, and those behind it
abbrev pub if_group : {X : Type 0} → Result X ℕ → List X → List X
if_group (Err place) xs = []
if_group (Ok x) xs = x ∷ xs

module _ {X : Type 0} (width : ℕ) (group : List (List ℕ) → Result X ℕ) where
  -- the groups from field k on, at least `least` and at most `most`; a field too many is at fault, and so is one too few
  abbrev pub groups : ℕ → ℕ → List (List ℕ) → ℕ → Result (List X) ℕ
  groups k least [] most = cond (least == 0) (Ok []) (Err k)
  groups k least (f ∷ fs) zero = Err k
  groups k least (f ∷ fs) (suc most) = or_within k (group (f ∷ fs)) (λ x. in_front x (groups (k + width) (least - 1) (drop width (f ∷ fs)) most))

  -- the next n groups, as far as they are groups
  abbrev pub ahead : ℕ → List (List ℕ) → List X
  ahead zero fs = []
  ahead (suc n) fs = if_group (group fs) (ahead n (drop width fs))

-- a Discovery request's payload: just the indices 2 and 3
abbrev pub discovery_of : List (List ℕ) → Result (Unit {0}) ℕ
discovery_of fs =
    cond (is_word (codes "2") (first fs))
    (cond (is_word (codes "3") (first (drop 1 fs)))
    (cond (length (drop 2 fs) == 0) (Ok tt) (Err 6))
    (Err 5))
    (Err 4)

-- the index of a write is a number of 16 bits, and its text is one
abbrev pub KeptWrite : ℕ × List ℕ → Type 0
KeptWrite w = (w.0 < 65536) × (textual w.1 ≡ true)

-- the text writes a value of the type, and a code without a value is not 0
abbrev pub KeptReadout : Readout → Type 0
KeptReadout (found kind text) = is_some (value_read kind text) ≡ true
KeptReadout (lacking code) = code_number code ≡ 0 → ⊥
