-- Writing a text to a store: what the owner of a box does with a type of his choice, and a packet with the element's own.
use Rattle.std.specs.Prelude.{ℕ, cond, List, Some, None, Option}
use Rattle.protocol.specs.declared.kind.Kind.{Kind}
use Rattle.value.specs.Values.{Datum, value_read}
use Rattle.store.specs.Contents.{Contents, Writing, inside, kept, kind_at, write_of}

-- nothing to write for an element: 1 where nothing is, else 2
abbrev pub mismatched : Option Kind → ℕ
mismatched None = 1
mismatched (Some k) = 2

-- the write of what was read as a value of type k, if it was: else 3, 1 and 2 in this order
abbrev pub write_read : Contents → ℕ → Kind → Option Datum → Writing
write_read c i k (Some d) = write_of c i (record { kind = k; datum = d })
write_read c i k None = kept (cond (inside c i) (mismatched (kind_at c i)) 3) c

-- a text written as a value of type k
abbrev pub owner_write_of : Contents → ℕ → Kind → List ℕ → Writing
owner_write_of c i k text = write_read c i k (value_read k text)

-- a text written as a value of the type that is there, if one is
abbrev pub write_as : Option Kind → Contents → ℕ → List ℕ → Writing
write_as None c i text = kept (cond (inside c i) 1 3) c
write_as (Some k) c i text = owner_write_of c i k text

-- a text written as a value of the element's own type
abbrev pub write_text_of : Contents → ℕ → List ℕ → Writing
write_text_of c i text = write_as (kind_at c i) c i text
