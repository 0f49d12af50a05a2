-- Rows of a catalogue as lines of text: a name and two angles in milliarcseconds, with commas between.
--     parts line      what stands between the commas
--     row_of line     the row that a line writes, or the first fault
use Rattle.std.specs.Prelude.{ℕ, Bool, cond, List, [], ◌∷◌, ℤ, Some, None, Ok, Err, Option, Result, ◌==◌}
use Rattle.std.specs.List.{slice_split}
use Rattle.protocol.specs.Texts.{text_of}
use Rattle.protocol.specs.declared.kind.Kind.TheVariants as K
use Rattle.value.specs.Values.{Datum, truth, whole, real, words, value_read}
use Rattle.sky.specs.Stars.{Row, ascends, declines}
use Rattle.sky.specs.declared.fault.RowFault.{RowFault}
use Rattle.sky.specs.declared.fault.RowFault.TheVariants.{Fields, Name, Ascension, Declination}

-- what stands between the commas of a line
abbrev pub parts : List ℕ → List (List ℕ)
parts line = slice_split (λ b. b == 44) line

-- the number, where it passes a test
abbrev pub passing : (ℤ → Bool) → Option ℤ → Option ℤ
passing test None = None
passing test (Some z) = cond (test z) (Some z) None

-- the whole number that a value is, if it is one
abbrev pub number : Option Datum → Option ℤ
number None = None
number (Some (truth b)) = None
number (Some (whole z)) = Some z
number (Some (real x)) = None
number (Some (words bs)) = None

-- the number that a part of a row writes, as a value of type In, if it passes a test
abbrev pub angle_of : (ℤ → Bool) → List ℕ → Option ℤ
angle_of test part = passing test (number (value_read K.In part))

-- what was read, or else a fault
abbrev pub or_fault : {X : Type 0} → RowFault → Option X → (X → Result Row RowFault) → Result Row RowFault
or_fault fault None next = Err fault
or_fault fault (Some x) next = next x

-- a name and two angles, or the first that is none
abbrev pub read_parts : List ℕ → List ℕ → List ℕ → Result Row RowFault
read_parts name ascension declination =
    or_fault Name (text_of name) (λ n.
    or_fault Ascension (angle_of ascends ascension) (λ a.
    or_fault Declination (angle_of declines declination) (λ d.
    Ok (record { name = n; ascension = a; declination = d }))))

-- a row has three parts
abbrev pub row_of_parts : List (List ℕ) → Result Row RowFault
row_of_parts [] = Err Fields
row_of_parts (n ∷ []) = Err Fields
row_of_parts (n ∷ a ∷ []) = Err Fields
row_of_parts (n ∷ a ∷ d ∷ []) = read_parts n a d
row_of_parts (n ∷ a ∷ d ∷ e ∷ es) = Err Fields

abbrev pub row_of : List ℕ → Result Row RowFault
row_of line = row_of_parts (parts line)
