-- The frame of a packet, and the fields inside it.
use Rattle.std.specs.Prelude.{ℕ, ◌-◌, Bool, true, cond, not, ◌&&◌, ◌||◌, List, [], ◌∷◌, length, Ok, Err, Result, ◌==◌, nat_le, nat_lt, slice_index}
use Rattle.std.specs.List.{between}
use Rattle.protocol.specs.Texts.{utf8}
use Rattle.protocol.specs.declared.refusal.Refusal.{Refusal}
use Rattle.protocol.specs.declared.refusal.Refusal.TheVariants.{TooLong, Frame, NotUtf8}
use Rattle.field.specs.Fields.{fields}

-- no { and no }
abbrev pub plain : List ℕ → Bool
plain [] = true
plain (b ∷ bs) = not (b == 123 || b == 125) && plain bs

-- what stands between the first byte and the last
abbrev pub inside : List ℕ → List ℕ
inside bs = between 1 (length bs - 1) bs

-- { first, } last, and no brace between
abbrev pub framed : List ℕ → Bool
framed bs = nat_le 2 (length bs) && (slice_index bs 0 == 123 && (slice_index bs (length bs - 1) == 125 && plain (inside bs)))

-- the fields of a packet, or the first of the grounds 3 to 5 that holds
abbrev pub fields_of : List ℕ → Result (List (List ℕ)) Refusal
fields_of bs =
    cond (nat_lt 512 (length bs)) (Err TooLong)
    (cond (framed bs)
    (cond (utf8 bs) (Ok (fields (inside bs))) (Err NotUtf8))
    (Err Frame))
