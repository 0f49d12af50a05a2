-- Numerals in a word, against what `parse` reads.
use Rattle.std.proofs.Common.{◌≡◌, ℕ, nat_le, ◌≤◌, cond, List, length, Some, None, Ok, Err, IsUtf8, Result, sym, ◌∙◌, arith, MatchResult, IsErrAnd}
use Rattle.std.specs.Option.{option_map}
use Rattle.notation.specs.declared.trouble.Trouble.{Trouble}
use Rattle.notation.specs.declared.trouble.Trouble.TheVariants.{NotUnderstood}
use Rattle.std.specs.Result.{result_ok}
use Rattle.std.proofs.lemmas.Bool.Decides.{nat_tests}
use Rattle.std.proofs.lemmas.Str.Ascii.{IsAscii-from_reads}
use Rattle.std.proofs.lemmas.Str.Parse.{digit_at}
use Rattle.std.proofs.lemmas.Str.{IsUtf8-from_ascii}
use Rattle.protocol.proofs.Digits.{own}
use Rattle.field.specs.Numerals.{numeral}
use Rattle.field.proofs.Digits.{Whole, numeral_none}

-- digits are characters
whole_utf8 : (bs : List ℕ) → Whole bs → IsUtf8 bs
whole_utf8 bs w = IsUtf8-from_ascii bs (IsAscii-from_reads bs (length bs) (omega arith) (λ k h. omega (arith, digit_at bs k (own.to bs w.digits) h)))

-- what is no text is no number
pub no_text : (top : ℕ) (bs : List ℕ) → (IsUtf8 bs → ⊥) → numeral top bs ≡ None
no_text top bs h = numeral_none top bs (λ w _. h (whole_utf8 bs w))

-- a number that is read up to one end, read up to a lower one
pub narrower : (most top n : ℕ) (word : List ℕ) → most ≤ top → numeral top word ≡ Some n → numeral most word ≡ cond (nat_le n most) (Some n) None
narrower most top n word h e = grind (arith, nat_tests)

-- what comes of its conversion
pub converted : {T E : Type 0} (view : T → ℕ) (most n : ℕ) (word : List ℕ) (q : Result T E) (r : Result T Trouble) (Post : E → Trouble → Type 0) → MatchResult q (λ x. r ≡ Ok x) (λ d. IsErrAnd r (Post d)) → ((d : E) (e : Trouble) → Post d e → e ≡ NotUnderstood) → numeral most word ≡ cond (nat_le n most) (Some n) None → option_map view (result_ok q) ≡ cond (nat_le n most) (Some n) None → MatchResult r (λ x. numeral most word ≡ Some (view x)) (λ e. (e ≡ NotUnderstood) × (numeral most word ≡ None))
converted view most n word (Ok x) r Post h u m o = rw h (m ∙ sym o)
converted view most n word (Err d) (Ok x) Post h u m o = absurd h
converted view most n word (Err d) (Err e) Post h u m o = (u d e h, m ∙ sym o)
