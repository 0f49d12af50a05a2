-- What a text is: 1 to 40 bytes of UTF-8 without the three bytes that a packet reserves.
use Rattle.std.specs.Prelude.{ℕ, Bool, true, cond, not, ◌&&◌, ◌||◌, List, [], ◌∷◌, length, Some, None, Option, ◌==◌, nat_le}
use Rattle.std.proofs.Math.Utf8.{encodes, scalars}
use Rattle.std.specs.Str.{bytes_eq, chars}

-- { or } or :
abbrev pub reserved : ℕ → Bool
reserved b = b == 123 || (b == 125 || b == 58)

-- no byte is reserved
abbrev pub free : List ℕ → Bool
free [] = true
free (b ∷ bs) = not (reserved b) && free bs

-- the bytes are the UTF-8 of the characters that they decode to
abbrev pub utf8 : List ℕ → Bool
utf8 bs = scalars (chars bs) && bytes_eq (encodes (chars bs)) bs

-- 1 to 40 bytes
abbrev pub sized : List ℕ → Bool
sized bs = nat_le 1 (length bs) && nat_le (length bs) 40

abbrev pub textual : List ℕ → Bool
textual bs = sized bs && (free bs && utf8 bs)

-- the bytes, where they are a text
abbrev pub text_of : List ℕ → Option (List ℕ)
text_of bs = cond (textual bs) (Some bs) None
