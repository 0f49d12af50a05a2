-- Whole numbers as text: digits with an optional minus, no leading zero, and no minus zero.
--     whole_of lo hi bs      the number from lo to hi that the text bs writes, if it writes one
--     ReadsInto gives bs o   o is what that number converts to, where it has 64 bits, and else nothing
--     long_least, long_most  the ends of the long whole numbers
use Rattle.std.specs.Prelude.{◌≡◌, ℕ, Bool, false, cond, not, ◌&&◌, ◌||◌, List, [], ◌∷◌, length, drop, ℤ, pos, negsuc, neg_ℤ, Some, None, MatchOption, Option, Result, ◌==◌, int_le, slice_index}
use Rattle.std.specs.Result.{result_ok}
use Rattle.std.specs.Str.Parse.{digits_value, starts_with_minus}
use Rattle.std.specs.Int.{is_in_range}
use Rattle.std.specs.Str.{all_ascii_digits}

-- one digit or more, the first not 0 unless it stands alone
abbrev pub plain : List ℕ → Bool
plain [] = false
plain (c ∷ cs) = cond (c == 48) (length cs == 0) (all_ascii_digits (c ∷ cs))

-- z where it lies from lo to hi
abbrev pub between : ℤ → ℤ → ℤ → Option ℤ
between lo hi z = cond (int_le lo z && int_le z hi) (Some z) None

-- the number from lo to hi that the text writes, if it writes one
abbrev pub whole_of : ℤ → ℤ → List ℕ → Option ℤ
whole_of lo hi bs =
    cond (starts_with_minus bs)
    (cond (plain (drop 1 bs) && not (slice_index bs 1 == 48)) (between lo hi (neg_ℤ (pos (digits_value 10 (drop 1 bs))))) None)
    (cond (plain bs) (between lo hi (pos (digits_value 10 bs))) None)

-- the first bytes of such a text: 0 alone, a digit from 1 to 9, or a minus and such a digit
abbrev pub begins : List ℕ → Bool
begins bs =
    (slice_index bs 0 == 48 && length bs == 1)
    || (is_in_range 49 57 (slice_index bs 0) || (slice_index bs 0 == 45 && is_in_range 49 57 (slice_index bs 1)))

-- -922337236854775808, where `negsuc n` is -(n + 1)
abbrev pub long_least : ℤ
long_least = negsuc 922337236854775807

abbrev pub long_most : ℤ
long_most = pos 922337236854775807

-- the ends of the numbers of 64 bits
abbrev pub wide_least : ℤ
wide_least = negsuc 9223372036854775807

abbrev pub wide_most : ℤ
wide_most = pos 9223372036854775807

abbrev pub ReadsInto : {T E : Type 0} → (ℤ → Result T E → Type 0) → List ℕ → Option T → Type 0
ReadsInto {T} {E} gives bs o = MatchOption (whole_of wide_least wide_most bs) (o ≡ None) (λ n. (r : Result T E) × gives n r × (o ≡ result_ok r))
