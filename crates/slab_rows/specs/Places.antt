-- What lies at a place of the memory that a station was handed.
--     part_of place slab reply   the bytes there, or the refusal of a place that is not inside
use Rattle.std.specs.Prelude.{ℕ, ◌+◌, cond, List, length, take, drop, Ok, Err, Result, nat_le}
use Rattle.protocol.specs.declared.refusal.Refusal.{Refusal}
use Rattle.protocol.specs.declared.refusal.Refusal.TheVariants.{Limit}
use Rattle.slab_rows.specs.declared.place.Place.{Place}
use Rattle.slab_rows.specs.declared.place.Place.TheVariants.{Slab, Reply}

-- what was handed out, with the bytes in the place of the reference to them
abbrev pub told : {A B E : Type 0} → (A → B) → Result A E → Result B E
told f (Ok x) = Ok (f x)
told f (Err e) = Err e

-- n bytes of the memory from a start on, all of which have to lie inside it
abbrev pub piece : List ℕ → ℕ → ℕ → Result (List ℕ) Refusal
piece memory start n = cond (nat_le (start + n) (length memory)) (Ok (take n (drop start memory))) (Err Limit)

-- the part of the slab, or of the reply buffer, at the place
abbrev pub part_of : Place → List ℕ → List ℕ → Result (List ℕ) Refusal
part_of (Slab start n) slab reply = piece slab start n
part_of (Reply n) slab reply = piece reply 0 n
