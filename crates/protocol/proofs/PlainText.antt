-- Reserved bytes and UTF-8.
use Rattle.std.proofs.Common.{◌≡◌, ℕ, ◌+◌, ◌<◌, ◌≤◌, true, false, not, ◌&&◌, leb, List, length, get_or, drop, IsUtf8, Decides, sym, ap, ◌∙◌}
use lib.Utf8.{scalars}
use Rattle.std.proofs.lemmas.List.{at_drop_more}
use Rattle.std.specs.Str.{chars}
use Rattle.std.proofs.lemmas.Slice.Eq.{bytes_eq-Decides}
use Rattle.std.proofs.lemmas.Str.{encodes-chars, scalars-chars}
use Rattle.std.proofs.lemmas.Bool.{and_parts, and_from, leb-true}
use Rattle.protocol.specs.Texts.{reserved, free, utf8, sized, textual}

free_step : (bs : List ℕ) (i : ℕ) → i < length bs → free (drop i bs) ≡ (not (reserved (get_or bs i 0)) && free (drop (i + 1) bs))
free_step bs i h = at_drop_more free bs i 0 h

pub free_more : (bs : List ℕ) (i : ℕ) → i < length bs → reserved (get_or bs i 0) ≡ false → free (drop (i + 1) bs) ≡ free (drop i bs)
free_more bs i h e = sym (free_step bs i h ∙ ap (λ t. not t && free (drop (i + 1) bs)) e)

pub free_stops : (bs : List ℕ) (i : ℕ) → i < length bs → reserved (get_or bs i 0) ≡ true → free (drop i bs) ≡ false
free_stops bs i h e = free_step bs i h ∙ ap (λ t. not t && free (drop (i + 1) bs)) e

-- `utf8` tests what `from_utf8` tests
pub utf8_decides : (bs : List ℕ) → Decides (utf8 bs) (IsUtf8 bs)
utf8_decides bs = (
  λ e. let p = and_parts (scalars (chars bs)) _ e in (chars bs, (p.0, (bytes_eq-Decides _ bs).0 p.1)),
  λ u. and_from _ _ (scalars-chars bs u) ((bytes_eq-Decides _ bs).1 (encodes-chars bs u)),
)

pub few : (bs : List ℕ) → textual bs ≡ true → length bs ≤ 40
few bs t = let s = (and_parts (sized bs) _ t).0 in leb-true _ _ (and_parts (leb 1 (length bs)) _ s).1

pub some : (bs : List ℕ) → textual bs ≡ true → 1 ≤ length bs
some bs t = let s = (and_parts (sized bs) _ t).0 in leb-true _ _ (and_parts (leb 1 (length bs)) _ s).0

pub textual_from : (bs : List ℕ) → sized bs ≡ true → free bs ≡ true → IsUtf8 bs → textual bs ≡ true
textual_from bs s f u = and_from (sized bs) _ s (and_from (free bs) _ f ((utf8_decides bs).1 u))

pub characters : (bs : List ℕ) → textual bs ≡ true → IsUtf8 bs
characters bs t = (utf8_decides bs).0 (and_parts (free bs) _ (and_parts (sized bs) _ t).1).1
