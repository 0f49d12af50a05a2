-- The spelling of a whole number: that it is a text, and that it is written as a sign and digits.
use Rattle.std.proofs.Common.{◌≡◌, ℕ, suc, ◌≤◌, true, List, [], ◌∷◌, length, ℤ, pos, negsuc, decimal, refl, arith, w64, SFits}
use Rattle.std.specs.Fmt.{signed_decimal}
use Rattle.std.specs.Str.{all_ascii_digits}
use Rattle.std.proofs.lemmas.Fmt.{digits_decimal, decimal_nonempty, length_signed_le, IsAscii-signed}
use Rattle.std.proofs.lemmas.Bool.{and_from, le-leb}
use Rattle.std.proofs.lemmas.Str.{IsUtf8-from_ascii}
use Rattle.std.proofs.lemmas.Bool.Decides.{nat_tests}
use Rattle.protocol.specs.Texts.{free, sized, textual}
use Rattle.protocol.proofs.PlainText.{utf8_decides}
use Rattle.protocol.proofs.Digits.{own}

free_digits : (ds : List ℕ) → all_ascii_digits ds ≡ true → free ds ≡ true
free_digits [] a = refl
free_digits (c ∷ cs) a = let f : all_ascii_digits cs ≡ true → free cs ≡ true = free_digits cs in grind (arith, nat_tests)

free_signed : (z : ℤ) → SFits w64 z → free (signed_decimal z) ≡ true
free_signed (pos n) f = free_digits (decimal n) (digits_decimal own n (omega (arith, f.sfits)))
free_signed (negsuc n) f = free_digits (decimal (suc n)) (digits_decimal own (suc n) (omega (arith, f.sfits)))

some_signed : (z : ℤ) → SFits w64 z → 1 ≤ length (signed_decimal z)
some_signed (pos n) f = decimal_nonempty n (omega (arith, f.sfits))
some_signed (negsuc n) f = omega arith

pub few_signed : (z : ℤ) → SFits w64 z → length (signed_decimal z) ≤ 20
few_signed z f = length_signed_le 19 z (omega (arith, f.sfits)) f.sfits

-- the spelling of a whole number is a text
pub signed_textual : (z : ℤ) → SFits w64 z → textual (signed_decimal z) ≡ true
signed_textual z f =
    let s : sized (signed_decimal z) ≡ true = and_from _ _ (le-leb 1 (length (signed_decimal z)) (some_signed z f)) (le-leb (length (signed_decimal z)) 40 (omega (arith, few_signed z f))) in
    and_from _ _ s (and_from _ _ (free_signed z f) ((utf8_decides (signed_decimal z)).1 (IsUtf8-from_ascii (signed_decimal z) (IsAscii-signed z f.sfits))))
