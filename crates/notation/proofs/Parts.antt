-- Bytes that are noted a few at a time.
use Rattle.std.proofs.Common.{◌≡◌, ℕ, suc, ◌/◌, ◌%◌, ◌<◌, true, List, [], ◌∷◌, ◌++◌, length, get_or, sym, ap, ◌∙◌, append_assoc, subst, inl, inr, arith}
use Rattle.std.specs.List.{flat_map}
use Rattle.std.specs.Str.{IsAscii}
use Rattle.std.proofs.lemmas.Bool.{cases_Bool, cond-true, cond-false}
use Rattle.std.proofs.lemmas.Bool.Decides.{nat_tests}
use Rattle.std.proofs.lemmas.List.Concat.{flat_map-append}
use Rattle.std.proofs.lemmas.Str.{IsAscii-append}
use Rattle.std.proofs.lemmas.Str.Ascii.{IsAscii-nil, IsAscii-cons}
use Rattle.notation.specs.Strings.{plain, hex_digit, noted_byte}

plain_ascii : (b : ℕ) → plain b ≡ true → b < 128
plain_ascii b e = grind (arith, nat_tests)

hex_ascii : (n : ℕ) → n < 16 → hex_digit n < 128
hex_ascii n h = grind (arith, nat_tests)

escape_ascii : (h l : ℕ) → h < 16 → l < 16 → IsAscii (92 ∷ 120 ∷ hex_digit h ∷ hex_digit l ∷ [])
escape_ascii h l i j =
    let low = hex_digit l ∷ [] in
    let both = hex_digit h ∷ low in
    IsAscii-cons 92 (120 ∷ both) (omega arith) (IsAscii-cons 120 both (omega arith) (IsAscii-cons (hex_digit h) low (hex_ascii h i) (IsAscii-cons (hex_digit l) [] (hex_ascii l j) IsAscii-nil)))

byte_ascii : (b : ℕ) → b < 256 → IsAscii (noted_byte b)
byte_ascii b h =
    elim (cases_Bool (plain b)) [
      | inl p ↦ subst IsAscii (sym (cond-true _ _ _ p)) (IsAscii-cons b [] (plain_ascii b p) IsAscii-nil)
      | inr p ↦ subst IsAscii (sym (cond-false _ _ _ p)) (escape_ascii (b / 16) (b % 16) (omega arith) (omega arith))
    ]

-- the notation is ASCII
pub noted_ascii : (bs : List ℕ) → ((k : ℕ) → k < length bs → get_or bs k 0 < 256) → IsAscii (flat_map noted_byte bs)
noted_ascii [] h = IsAscii-nil
noted_ascii (b ∷ bs) h = IsAscii-append (noted_byte b) (flat_map noted_byte bs) (byte_ascii b (h 0 (omega arith))) (noted_ascii bs (λ k l. h (suc k) (omega arith)))

-- the same bytes are written where a part of the rest is written
pub part_more : (done part behind rest all : List ℕ) → part ++ behind ≡ rest → done ++ flat_map noted_byte rest ≡ all → (done ++ flat_map noted_byte part) ++ flat_map noted_byte behind ≡ all
part_more done part behind rest all whole so_far =
    append_assoc done (flat_map noted_byte part) (flat_map noted_byte behind)
    ∙ ap (λ l. done ++ l) (sym (flat_map-append noted_byte part behind) ∙ ap (flat_map noted_byte) whole) ∙ so_far
