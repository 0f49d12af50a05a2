-- Numerals, against what `parse` reads and what `decimal` writes.
use Rattle.std.proofs.Common.{◌≡◌, ℕ, ◌^◌, ◌<◌, ◌≤◌, true, cond, ◌&&◌, eqb, leb, ◌⊎◌, List, [], ◌∷◌, length, get_or, Some, None, Ok, Err, decimal, Result, sym, ap, ◌∙◌, inl, inr, ⊎_elim, arith, MatchResult}
use Rattle.std.specs.Str.Parse.{digits_value, ParsesUnsigned}
use Rattle.std.specs.Str.{all_ascii_digits}
use Rattle.std.proofs.lemmas.Bool.{and_parts, and_from, eq-eqb, ne_eqb, cases_Bool, cases_eq, leb-true, le-leb, true≢false, cases_lt, lt-leb}
use Rattle.std.proofs.lemmas.Fmt.{decimal_nonempty, first_decimal, digits_decimal, digits_value-decimal, length-decimal-le}
use Rattle.std.proofs.lemmas.Str.Parse.{parse_plain}
use Rattle.protocol.proofs.Digits.{own}
use Rattle.field.specs.Numerals.{none, whole, numeral}

cases_le : (a b : ℕ) → (a ≤ b) ⊎ (b < a)
cases_le a b = ⊎_elim (λ l. inr l) (λ l. inl l) (cases_lt b a)

-- what `whole` tests
pub record Whole (ds : List ℕ) : Type 0 where
  pub digits : all_ascii_digits ds ≡ true
  pub some : 0 < length ds
  pub lead : get_or ds 0 0 ≡ 48 → length ds ≤ 1

lone : (d : ℕ) (ds : List ℕ) → (d ≡ 48 → length (d ∷ ds) ≤ 1) → cond (eqb d 48) (none ds) true ≡ true
lone d [] h = ⊎_elim (λ e. rw e) (λ e. rw e) (cases_Bool (eqb d 48))
lone d (x ∷ ds) h = rw (ne_eqb d 48 (λ e. omega (arith, h e)))

lone_back : (d : ℕ) (ds : List ℕ) → cond (eqb d 48) (none ds) true ≡ true → d ≡ 48 → length (d ∷ ds) ≤ 1
lone_back d [] h e = omega arith
lone_back d (x ∷ ds) h e = absurd (true≢false (sym h ∙ rw (eq-eqb d 48 e)))

pub to_whole : (ds : List ℕ) → Whole ds → whole ds ≡ true
to_whole [] h = absurd (omega (arith, h.some))
to_whole (d ∷ ds) h = and_from _ _ h.digits (lone d ds h.lead)

pub from_whole : (ds : List ℕ) → whole ds ≡ true → Whole ds
from_whole [] h = absurd (true≢false (sym h))
from_whole (d ∷ ds) h = let p = and_parts (all_ascii_digits (d ∷ ds)) _ h in record { digits = p.0; some = omega arith; lead = lone_back d ds p.1 }

pub numeral_some : (top : ℕ) (ds : List ℕ) → Whole ds → digits_value 10 ds ≤ top → numeral top ds ≡ Some (digits_value 10 ds)
numeral_some top ds h l = rw (to_whole ds h, le-leb (digits_value 10 ds) top l)

pub numeral_none : (top : ℕ) (ds : List ℕ) → (Whole ds → digits_value 10 ds ≤ top → ⊥) → numeral top ds ≡ None
numeral_none top ds h =
    ⊎_elim
    (λ e. let p = and_parts _ _ e in absurd (h (from_whole ds p.0) (leb-true _ _ p.1)))
    (λ e. rw e)
    (cases_Bool (whole ds && leb (digits_value 10 ds) top))

-- a number is read back from its digits
pub numeral_decimal : (top n : ℕ) → n ≤ top → n < 2 ^ 64 → numeral top (decimal n) ≡ Some n
numeral_decimal top n l f =
    let is : digits_value 10 (decimal n) ≡ n = digits_value-decimal own n f in
    numeral_some top (decimal n)
    (record {
      digits = digits_decimal own n f;
      some = decimal_nonempty n f;
      lead = λ e. ⊎_elim (λ z. rw z (omega (arith, length-decimal-le 1 0 (omega arith) (omega arith) (omega arith)))) (λ z. absurd (omega (arith, first_decimal n (omega arith) f))) (cases_eq n 0);
    })
    (rw is l)
    ∙ ap Some is

-- what `parse::<u64>` says of a text with no plus and no leading zero in front
pub parse_is : {E : Type 0} (top : ℕ) (bs : List ℕ) (r : Result ℕ E) → ParsesUnsigned 64 10 bs r → (get_or bs 0 0 ≡ 43 → ⊥) → (get_or bs 0 0 ≡ 48 → length bs ≤ 1) → top < 2 ^ 64 → MatchResult r (λ n. numeral top bs ≡ cond (leb n top) (Some n) None) (λ _. numeral top bs ≡ None)
parse_is {E = E} top bs (Ok n) h plus lead t =
    let p = parse_plain own {E = E} 64 bs (Ok n) h plus in
    ⊎_elim
    (λ l. let m = le-leb n top l in rw m (numeral_some top bs (record { digits = p.0.0; some = p.0.1; lead = lead }) (omega (arith, p.1)) ∙ ap Some (sym p.1)))
    (λ l. let m = lt-leb n top l in rw m (numeral_none top bs (λ _ f. omega (arith, p.1))))
    (cases_le n top)
parse_is {E = E} top bs (Err e) h plus lead t =
    let p = parse_plain own {E = E} 64 bs (Err e) h plus in
    numeral_none top bs (λ k f. p (k.digits, k.some, omega arith))
