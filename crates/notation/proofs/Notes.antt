-- The notation, sign by sign.
use Rattle.std.proofs.Common.{◌≡◌, ℕ, ◌<◌, true, false, List, [], ◌∷◌, ◌++◌, length, get_or, drop, Some, None, Err, Option, refl, ap, append_assoc, arith}
use Rattle.std.specs.Option.{option_map}
use Rattle.std.proofs.lemmas.Bool.{cond-true, cond-false, false≢true}
use Rattle.notation.specs.Strings.{digit_of, byte_of, escaped, front, front_hex, front_plain, bytes_of}
use Rattle.notation.specs.Readings.{ReadsSign}
use Rattle.notation.specs.declared.trouble.Trouble.{Trouble}
use Rattle.notation.specs.declared.trouble.Trouble.TheVariants.{NotUnderstood, NoMemory}

-- bytes that are known, in front of what the rest of a word stands for
abbrev pub behind : List ℕ → Option (List ℕ) → Option (List ℕ)
behind xs rest = option_map (λ ys. xs ++ ys) rest

pub escaped_step : (w : List ℕ) → escaped w ≡ true → bytes_of w ≡ front_hex (byte_of (digit_of (get_or w 2 0)) (digit_of (get_or w 3 0))) (bytes_of (drop 4 w))
escaped_step [] x = absurd (false≢true x)
escaped_step (b ∷ []) x = absurd (false≢true x)
escaped_step (b ∷ c ∷ []) x = absurd (false≢true x)
escaped_step (b ∷ c ∷ d ∷ []) x = absurd (false≢true x)
escaped_step (b ∷ c ∷ d ∷ e ∷ rest) x = cond-true _ _ _ x

pub plain_step : (w : List ℕ) → 0 < length w → escaped w ≡ false → bytes_of w ≡ front_plain (get_or w 0 0) (bytes_of (drop 1 w))
plain_step [] h x = absurd (omega arith)
plain_step (b ∷ []) h x = refl
plain_step (b ∷ c ∷ []) h x = refl
plain_step (b ∷ c ∷ d ∷ []) h x = refl
plain_step (b ∷ c ∷ d ∷ e ∷ rest) h x = cond-false _ _ _ x

pub behind_start : (xs : List ℕ) (o : Option (List ℕ)) → xs ≡ [] → behind xs o ≡ o
behind_start xs None e = refl
behind_start xs (Some ys) e = ap (λ zs. Some (zs ++ ys)) e

pub behind_more : (xs : List ℕ) (b : ℕ) (o : Option (List ℕ)) → behind (xs ++ b ∷ []) o ≡ behind xs (front b o)
behind_more xs b None = refl
behind_more xs b (Some ys) = ap Some (append_assoc xs (b ∷ []) ys)

-- a sign that stands for nothing
pub misread : (word rest : List ℕ) (e : Trouble) → ReadsSign word (Some (Err e)) rest → (e ≡ NotUnderstood) × (bytes_of word ≡ None)
misread word rest NotUnderstood h = (refl, h.0)
misread word rest NoMemory h = absurd h
