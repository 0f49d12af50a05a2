-- What a store means, and what its calls give.
--     Contents        two limits, and for each index nothing or an element
--     Sound c         what a store can mean
--     inside c i      the index lies between the limits
--     kind_at c i     the type of the element at the index, if there is one
--     read_of c i     what a read gives: a code, and the value where the code is 0
--     write_of c i t  what a write gives: a code, and what the store means afterwards
use Rattle.std.specs.Prelude.{◌≡◌, ℕ, ◌^◌, ◌<◌, ◌≤◌, Bool, true, false, cond, not, ◌&&◌, ◌||◌, Some, None, Ok, Err, Option, Result, ◌==◌, nat_eq, nat_le}
use Rattle.std.specs.Map.{update}
use Rattle.std.specs.Option.{option_map}
use Rattle.protocol.specs.Words.{kind_number, code_number}
use Rattle.protocol.specs.declared.kind.Kind.{Kind}
use Rattle.protocol.specs.declared.code.Code.{Code}
use Rattle.value.specs.Values.{Datum, Valid}
use Rattle.value.specs.Meant.{kind_of, datum_of}
use Rattle.value.specs.declared.value.Value.{Value}

-- a value with its type
pub record Typed : Type 0 where
  pub kind : Kind
  pub datum : Datum

abbrev pub typed : Value → Typed
typed v = record { kind = kind_of v; datum = datum_of v }

-- a type, a value of it, and whether it is fixed
pub record Element : Type 0 where
  pub kind : Kind
  pub datum : Datum
  pub fixed : Bool

-- an element that can be written, with this value
abbrev pub free : Typed → Element
free t = record { kind = t.kind; datum = t.datum; fixed = false }

-- a fixed element with this value
abbrev pub fixed : Typed → Element
fixed t = record { kind = t.kind; datum = t.datum; fixed = true }

pub record Contents : Type 0 where
  pub low : ℕ
  pub high : ℕ
  pub element : ℕ → Option Element

abbrev pub inside : Contents → ℕ → Bool
inside c i = nat_le c.low i && nat_le i c.high

-- the value of the element, if there is one, is of its type
abbrev pub ValidIn : Option Element → Type 0
ValidIn None = Unit {0}
ValidIn (Some e) = Valid e.kind e.datum

-- the limits are indices in order, no element lies outside them, and each element's value is of its type
pub record Sound (c : Contents) : Type 0 where
  pub ordered : c.low ≤ c.high
  pub narrow : c.high < 2 ^ 16
  pub bounded : (i : ℕ) → inside c i ≡ false → c.element i ≡ None
  pub valid : (i : ℕ) → ValidIn (c.element i)

abbrev pub kind_at : Contents → ℕ → Option Kind
kind_at c i = option_map (λ e. e.kind) (c.element i)

-- a code, and the value where the code is 0
pub record Reading : Type 0 where
  pub code : ℕ
  pub value : Option Typed

-- no value, with this code
abbrev pub refused : ℕ → Reading
refused n = record { code = n; value = None }

-- 1 where nothing is, else 0 and the value
abbrev pub found : Option Element → Reading
found None = refused 1
found (Some e) = record { code = 0; value = Some (record { kind = e.kind; datum = e.datum }) }

-- 3 outside the limits
abbrev pub read_of : Contents → ℕ → Reading
read_of c i = cond (inside c i) (found (c.element i)) (refused 3)

-- what a read answered
abbrev pub reading : Result Value Code → Reading
reading (Ok v) = record { code = 0; value = Some (typed v) }
reading (Err c) = refused (code_number c)

-- a code, and what the store means afterwards
pub record Writing : Type 0 where
  pub code : ℕ
  pub after : Contents

-- nothing changes, with this code
abbrev pub kept : ℕ → Contents → Writing
kept n c = record { code = n; after = c }

-- the contents with another value at an index
abbrev pub put : Contents → ℕ → Typed → Contents
put c i t = record { low = c.low; high = c.high; element = update nat_eq c.element i (Some (free t)) }

-- the element is fixed, or of another type
abbrev pub barred : Element → Kind → Bool
barred e k = e.fixed || not (kind_number e.kind == kind_number k)

-- 1 where nothing is, 2 where the element is barred, else 0
abbrev pub write_at : Option Element → Contents → ℕ → Typed → Writing
write_at None c i t = kept 1 c
write_at (Some e) c i t = cond (barred e t.kind) (kept 2 c) (record { code = 0; after = put c i t })

-- 3 outside the limits
abbrev pub write_of : Contents → ℕ → Typed → Writing
write_of c i t = cond (inside c i) (write_at (c.element i) c i t) (kept 3 c)
