-- The notation of byte strings in a line.
--     noted bs      how bytes are written
--     word_of w     the bytes that a word stands for, if it stands for any
--     WordsReadBack    a word that is written for bytes stands for them
use Rattle.std.specs.Prelude.{◌≡◌, ℕ, ◌+◌, ◌-◌, ◌*◌, ◌/◌, ◌%◌, ◌<◌, Bool, cond, not, ◌&&◌, List, [], ◌∷◌, length, Some, None, Option, ◌==◌, nat_le, nat_lt, slice_index}
use Rattle.std.specs.List.{flat_map}
use Rattle.std.specs.Option.{option_map}
use Rattle.std.specs.Int.{is_in_range}
use Rattle.std.specs.Str.{bytes_eq}

-- a byte that stands for itself: 0x21 to 0x7e, but the backslash
abbrev pub plain : ℕ → Bool
plain b = nat_le 33 b && (nat_le b 126 && not (b == 92))

-- the lower-case hexadecimal digit of a number, and back
abbrev pub hex_digit : ℕ → ℕ
hex_digit n = cond (nat_lt n 10) (48 + n) (87 + n)

abbrev pub digit_of : ℕ → Option ℕ
digit_of b = cond (is_in_range 48 57 b) (Some (b - 48)) (cond (is_in_range 97 102 b) (Some (b - 87)) None)

-- a byte as it is written: itself, or a backslash, an x and two digits
abbrev pub noted_byte : ℕ → List ℕ
noted_byte b = cond (plain b) (b ∷ []) (92 ∷ 120 ∷ hex_digit (b / 16) ∷ hex_digit (b % 16) ∷ [])

-- the word for no bytes
abbrev pub empty : List ℕ
empty = 92 ∷ 101 ∷ []

abbrev pub noted : List ℕ → List ℕ
noted bs = cond (length bs == 0) empty (flat_map noted_byte bs)

-- a byte in front of those that the rest of a word stands for
abbrev pub front : ℕ → Option (List ℕ) → Option (List ℕ)
front b rest = option_map (λ bs. b ∷ bs) rest

-- the byte of two hexadecimal digits
abbrev pub byte_of : Option ℕ → Option ℕ → Option ℕ
byte_of None low = None
byte_of (Some h) None = None
byte_of (Some h) (Some l) = Some (h * 16 + l)

abbrev pub front_hex : Option ℕ → Option (List ℕ) → Option (List ℕ)
front_hex None rest = None
front_hex (Some b) rest = front b rest

abbrev pub front_plain : ℕ → Option (List ℕ) → Option (List ℕ)
front_plain b rest = cond (plain b) (front b rest) None

-- a word begins with \x and has two more bytes behind it
abbrev pub escaped : List ℕ → Bool
escaped w = nat_le 4 (length w) && (slice_index w 0 == 92 && slice_index w 1 == 120)

-- the bytes that the signs of a word stand for
abbrev pub bytes_of : List ℕ → Option (List ℕ)
bytes_of [] = Some []
bytes_of (b ∷ []) = front_plain b (Some [])
bytes_of (b ∷ c ∷ []) = front_plain b (bytes_of (c ∷ []))
bytes_of (b ∷ c ∷ d ∷ []) = front_plain b (bytes_of (c ∷ d ∷ []))
bytes_of (b ∷ c ∷ d ∷ e ∷ rest) =
    cond (escaped (b ∷ c ∷ d ∷ e ∷ rest)) (front_hex (byte_of (digit_of d) (digit_of e)) (bytes_of rest)) (front_plain b (bytes_of (c ∷ d ∷ e ∷ rest)))

abbrev pub word_of : List ℕ → Option (List ℕ)
word_of w = cond (bytes_eq w empty) (Some []) (bytes_of w)

-- a word that is written for bytes stands for them
abbrev pub WordsReadBack : Type 0
WordsReadBack = (bs : List ℕ) → ((k : ℕ) → k < length bs → slice_index bs k < 256) → word_of (noted bs) ≡ Some bs
