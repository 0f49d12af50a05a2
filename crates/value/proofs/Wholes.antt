-- What `parse` reads of a text that begins as a whole number does, in the words of specs/Whole.antt.
use Rattle.std.proofs.Common.{◌≡◌, ℕ, zero, suc, ◌+◌, ◌^◌, ◌<◌, ◌≤◌, true, false, not, ◌&&◌, eqb, List, [], ◌∷◌, length, get_or, drop, ℤ, pos, negsuc, neg_ℤ, nat_abs, ◌≤ℤ◌, Some, None, Ok, Err, decimal, MatchOption, Option, Result, cond, sym, refl, ap, ◌∙◌, inl, inr, arith, w64, SFits, rules}
use lib.Signed.{le_z}
use Rattle.std.specs.Option.{option_map}
use Rattle.std.specs.Result.{result_ok, OkIff}
use Rattle.std.specs.Str.Parse.{digits_value, starts_with_minus, ParsesSigned}
use Rattle.std.specs.Int.{IsInRange, FitsUnsignedBits}
use Rattle.std.specs.Fmt.{signed_decimal}
use Rattle.std.specs.Str.{all_ascii_digits}
use Rattle.protocol.proofs.Digits.{own}
use Rattle.std.proofs.lemmas.Str.Parse.{parse_signed_minus, parse_signed_plain}
use Rattle.std.proofs.lemmas.Fmt.{digits_decimal, digits_value-decimal, first_decimal, decimal_nonempty, length-decimal-le, decimal-digits_value, decimal_digit}
use Rattle.std.proofs.lemmas.Bool.{cases_Bool, cond-true, cond-false, and_left, and_right, cases_lt, cases_eq, false≢true, and_parts, ne_eqb}
use Rattle.std.proofs.lemmas.Bool.Decides.{nat_tests}
use Rattle.std.proofs.lemmas.Int.{ints}
use Rattle.value.specs.Whole.{plain, between, whole_of, begins, wide_least, wide_most, ReadsInto}

abbrev pub picked : {E : Type 0} → ℤ → ℤ → Result ℤ E → Option ℤ
picked lo hi (Ok z) = between lo hi z
picked lo hi (Err e) = None

-- too far below, and too far above
low : (lo hi : ℤ) (n : ℕ) → SFits w64 lo → 2 ^ 63 < n → between lo hi (neg_ℤ (pos n)) ≡ None
low lo hi n f h = cond-false _ _ _ (and_left (le_z lo (neg_ℤ (pos n))) _ (grind (arith, ints)))

high : (lo hi : ℤ) (n : ℕ) → SFits w64 hi → 2 ^ 63 ≤ n → between lo hi (pos n) ≡ None
high lo hi n f h = cond-false _ _ _ (and_right _ (le_z (pos n) hi) (grind (arith, ints)))

neg_case : {E : Type 0} (lo hi : ℤ) (c : ℕ) (cs : List ℕ) (r : Result ℤ E) → SFits w64 lo → IsInRange 49 57 c → ParsesSigned w64 10 (45 ∷ c ∷ cs) r → whole_of lo hi (45 ∷ c ∷ cs) ≡ picked lo hi r
neg_case {E} lo hi c cs (Ok z) f i h =
    let k = parse_signed_minus own {E = E} w64 (45 ∷ c ∷ cs) (Ok z) h refl in
    let a : all_ascii_digits (c ∷ cs) ≡ true = k.0.0 in
    let t : (plain (c ∷ cs) && not (eqb c 48)) ≡ true = grind (arith, nat_tests) in
    cond-true _ _ _ t ∙ ap (between lo hi) (sym k.1)
neg_case {E} lo hi c cs (Err e) f i h =
    let k = parse_signed_minus own {E = E} w64 (45 ∷ c ∷ cs) (Err e) h refl in
    elim (cases_Bool (all_ascii_digits (c ∷ cs))) [
      | inl t ↦ let u : (plain (c ∷ cs) && not (eqb c 48)) ≡ true = grind (arith, nat_tests) in cond-true _ _ _ u ∙ low lo hi (digits_value 10 (c ∷ cs)) f (elim (cases_lt (2 ^ 63) (digits_value 10 (c ∷ cs))) [ inl l ↦ l | inr l ↦ absurd (k (t, omega arith, l)) ])
      | inr t ↦ let u : (plain (c ∷ cs) && not (eqb c 48)) ≡ false = grind (arith, nat_tests) in cond-false _ _ _ u
    ]

none_digits : (cs : List ℕ) → length cs ≡ 0 → all_ascii_digits cs ≡ true
none_digits [] e = refl
none_digits (c ∷ cs) e = absurd (omega arith)

pos_case : {E : Type 0} (lo hi : ℤ) (c : ℕ) (cs : List ℕ) (r : Result ℤ E) → SFits w64 hi → IsInRange 48 57 c → (c ≡ 48 → length cs ≡ 0) → ParsesSigned w64 10 (c ∷ cs) r → whole_of lo hi (c ∷ cs) ≡ picked lo hi r
pos_case {E} lo hi c cs (Ok z) f i n h =
    let k = parse_signed_plain own {E = E} w64 (c ∷ cs) (Ok z) h (λ e. omega arith) (λ e. omega arith) in
    let m : eqb c 45 ≡ false = grind (arith, nat_tests) in
    let a : all_ascii_digits (c ∷ cs) ≡ true = k.0.0 in
    let t : plain (c ∷ cs) ≡ true = grind (arith, nat_tests) in
    cond-false _ _ _ m ∙ cond-true _ _ _ t ∙ ap (between lo hi) (sym k.1)
pos_case {E} lo hi c cs (Err e) f i n h =
    let k = parse_signed_plain own {E = E} w64 (c ∷ cs) (Err e) h (λ e. omega arith) (λ e. omega arith) in
    let m : eqb c 45 ≡ false = grind (arith, nat_tests) in
    cond-false _ _ _ m
    ∙ elim (cases_Bool (all_ascii_digits (c ∷ cs))) [
      | inl t ↦ let u : plain (c ∷ cs) ≡ true = grind (arith, nat_tests) in cond-true _ _ _ u ∙ high lo hi (digits_value 10 (c ∷ cs)) f (elim (cases_lt (digits_value 10 (c ∷ cs)) (2 ^ 63)) [ inl l ↦ absurd (k (t, omega arith, l)) | inr l ↦ l ])
      | inr t ↦ let u : plain (c ∷ cs) ≡ false = grind (arith, nat_tests, none_digits cs) in cond-false _ _ _ u
    ]

pub reads_whole : {E : Type 0} (lo hi : ℤ) (bs : List ℕ) (r : Result ℤ E) → SFits w64 lo → SFits w64 hi → begins bs ≡ true → ParsesSigned w64 10 bs r → whole_of lo hi bs ≡ picked lo hi r
reads_whole lo hi [] r f g b h = absurd (false≢true b)
reads_whole lo hi (c ∷ []) r f g b h = pos_case lo hi c [] r g (grind (arith, nat_tests)) (λ e. refl) h
reads_whole lo hi (c ∷ d ∷ cs) r f g b h =
    elim (cases_eq c 45) [
      | inl e ↦ rw e (neg_case lo hi d cs r f (grind (arith, nat_tests)) (rw e at h))
      | inr n ↦ pos_case lo hi c (d ∷ cs) r g (grind (arith, nat_tests)) (grind (arith, nat_tests)) h
    ]

plain_from : (ds : List ℕ) → all_ascii_digits ds ≡ true → 0 < length ds → (get_or ds 0 0 ≡ 48 → length ds ≡ 1) → plain ds ≡ true
plain_from [] a l o = absurd (omega arith)
plain_from (c ∷ cs) a l o = grind (arith, nat_tests)

no_minus : (ds : List ℕ) → all_ascii_digits ds ≡ true → starts_with_minus ds ≡ false
no_minus [] a = refl
no_minus (c ∷ cs) a = grind (arith, nat_tests)

one_zero : (n : ℕ) → n < 2 ^ 64 → get_or (decimal n) 0 0 ≡ 48 → length (decimal n) ≡ 1
one_zero n h e =
    elim (cases_lt 0 n) [
      | inl l ↦ absurd (omega (arith, first_decimal n l h))
      | inr l ↦ omega (arith, length-decimal-le 1 n (omega arith) (omega arith) h, decimal_nonempty n h)
    ]

plain_decimal : (n : ℕ) → n < 2 ^ 64 → plain (decimal n) ≡ true
plain_decimal n h = plain_from (decimal n) (digits_decimal own n h) (decimal_nonempty n h) (one_zero n h)

spelled : (lo hi z : ℤ) → SFits w64 z → whole_of lo hi (signed_decimal z) ≡ between lo hi z
spelled lo hi (pos n) f =
    let h : n < 2 ^ 64 = omega (arith, f.sfits) in
    cond-false _ _ _ (no_minus (decimal n) (digits_decimal own n h))
    ∙ cond-true _ _ _ (plain_decimal n h)
    ∙ ap (λ v. between lo hi (pos v)) (digits_value-decimal own n h)
spelled lo hi (negsuc n) f =
    let h : suc n < 2 ^ 64 = omega (arith, f.sfits) in
    let l = first_decimal (suc n) (omega arith) h in
    let t : (plain (decimal (suc n)) && not (eqb (get_or (decimal (suc n)) 0 0) 48)) ≡ true = grind (arith, nat_tests, plain_decimal (suc n) h) in
    cond-true _ _ _ t ∙ ap (λ v. between lo hi (neg_ℤ (pos v))) (digits_value-decimal own (suc n) h)

-- each number of 64 bits is read from its spelling, under any ends that it lies between
pub reads_back : (lo hi z : ℤ) → SFits w64 z → lo ≤ℤ z → z ≤ℤ hi → whole_of lo hi (signed_decimal z) ≡ Some z
reads_back lo hi z f a b = spelled lo hi z f ∙ grind (arith, ints)

between_some : (lo hi x z : ℤ) → between lo hi x ≡ Some z → (x ≡ z) × (lo ≤ℤ x) × (x ≤ℤ hi)
between_some lo hi x z e = grind (arith, ints)

from_plain : (ds : List ℕ) → plain ds ≡ true → (all_ascii_digits ds ≡ true) × (0 < length ds) × (get_or ds 0 0 ≡ 48 → length ds ≡ 1)
from_plain [] p = absurd (false≢true p)
from_plain (c ∷ cs) p = grind (arith, nat_tests, none_digits cs)

spelled_minus : (n : ℕ) (cs : List ℕ) → decimal n ≡ cs → (get_or cs 0 0 ≡ 48 → ⊥) → (45 ∷ cs) ≡ signed_decimal (neg_ℤ (pos n))
spelled_minus zero cs p q = absurd (q (ap (λ x. get_or x 0 0) (sym p ∙ decimal_digit 0 (omega arith))))
spelled_minus (suc n) cs p q = ap (λ x. 45 ∷ x) (sym p)

one_minus : (lo hi z : ℤ) (cs : List ℕ) → SFits w64 lo → whole_of lo hi (45 ∷ cs) ≡ Some z → (45 ∷ cs) ≡ signed_decimal z
one_minus lo hi z cs f e =
    elim (cases_Bool (plain cs && not (eqb (get_or cs 0 0) 48))) [
      | inl t ↦
          let u = and_parts (plain cs) _ t in
          let b = between_some lo hi (neg_ℤ (pos (digits_value 10 cs))) z (sym (cond-true _ _ _ t) ∙ e) in
          let p = from_plain cs u.0 in
          let n : digits_value 10 cs < 2 ^ 64 = omega (arith, ints, b.1) in
          spelled_minus (digits_value 10 cs) cs (decimal-digits_value own cs p.0 p.1 p.2 n) (grind (arith, nat_tests, u.1)) ∙ ap signed_decimal b.0
      | inr t ↦ cc (sym (cond-false _ _ _ t) ∙ e)
    ]

one_plain : (lo hi z : ℤ) (bs : List ℕ) → SFits w64 hi → starts_with_minus bs ≡ false → whole_of lo hi bs ≡ Some z → bs ≡ signed_decimal z
one_plain lo hi z bs g m e =
    elim (cases_Bool (plain bs)) [
      | inl t ↦
          let b = between_some lo hi (pos (digits_value 10 bs)) z (sym (cond-false _ _ _ m ∙ cond-true _ _ _ t) ∙ e) in
          let p = from_plain bs t in
          let n : digits_value 10 bs < 2 ^ 64 = omega (arith, ints, b.2) in
          sym (decimal-digits_value own bs p.0 p.1 p.2 n) ∙ ap signed_decimal b.0
      | inr t ↦ cc (sym (cond-false _ _ _ m ∙ cond-false _ _ _ t) ∙ e)
    ]

-- and from no other text
pub one_spelling : (lo hi z : ℤ) (bs : List ℕ) → SFits w64 lo → SFits w64 hi → whole_of lo hi bs ≡ Some z → bs ≡ signed_decimal z
one_spelling lo hi z [] f g e = one_plain lo hi z [] g refl e
one_spelling lo hi z (c ∷ cs) f g e =
    elim (cases_eq c 45) [
      | inl m ↦ rw m (one_minus lo hi z cs f (rw m at e))
      | inr m ↦ one_plain lo hi z (c ∷ cs) g (ne_eqb c 45 m) e
    ]

-- what a text writes as a whole number, however large
numeral : List ℕ → Option ℤ
numeral bs =
    cond (starts_with_minus bs)
    (cond (plain (drop 1 bs) && not (eqb (get_or bs 1 0) 48)) (Some (neg_ℤ (pos (digits_value 10 (drop 1 bs))))) None)
    (cond (plain bs) (Some (pos (digits_value 10 bs))) None)

kept_in : ℤ → ℤ → Option ℤ → Option ℤ
kept_in lo hi None = None
kept_in lo hi (Some z) = between lo hi z

whole_is : (lo hi : ℤ) (bs : List ℕ) → whole_of lo hi bs ≡ kept_in lo hi (numeral bs)
unfolding numeral kept_in
whole_is lo hi bs =
    elim (cases_Bool (starts_with_minus bs)) [
      | inl m ↦
          elim (cases_Bool (plain (drop 1 bs) && not (eqb (get_or bs 1 0) 48))) [
            | inl t ↦ rw (m, t) refl
            | inr t ↦ rw (m, t) refl
          ]
      | inr m ↦ elim (cases_Bool (plain bs)) [ inl t ↦ rw (m, t) refl | inr t ↦ rw (m, t) refl ]
    ]

narrow : (lo hi : ℤ) (o : Option ℤ) → wide_least ≤ℤ lo → hi ≤ℤ wide_most → kept_in lo hi o ≡ kept_in lo hi (kept_in wide_least wide_most o)
unfolding kept_in
narrow lo hi None a b = refl
narrow lo hi (Some z) a b =
    elim (cases_Bool (le_z wide_least z && le_z z wide_most)) [
      | inl t ↦ rw t refl
      | inr t ↦
          let u : (le_z lo z && le_z z hi) ≡ false = grind (arith, ints) in
          rw t (cond-false _ _ _ u)
    ]

-- ends within 64 bits narrow what is read with 64 bits
narrowed : (lo hi : ℤ) (bs : List ℕ) → wide_least ≤ℤ lo → hi ≤ℤ wide_most → whole_of lo hi bs ≡ kept_in lo hi (whole_of wide_least wide_most bs)
narrowed lo hi bs a b = whole_is lo hi bs ∙ narrow lo hi (numeral bs) a b ∙ ap (kept_in lo hi) (sym (whole_is wide_least wide_most bs))

-- what is read into a type is the number between the type's ends
pub converted : {T E : Type 0} (number : T → ℤ) (lo hi : ℤ) (gives : ℤ → Result T E → Type 0) (bs : List ℕ) (o : Option T) → wide_least ≤ℤ lo → hi ≤ℤ wide_most → ((n : ℤ) (r : Result T E) → gives n r → option_map number (result_ok r) ≡ between lo hi n) → ReadsInto gives bs o → option_map number o ≡ whole_of lo hi bs
unfolding kept_in
converted {T} {E} number lo hi gives bs o a b law h = by_read (whole_of wide_least wide_most bs) h ∙ sym (narrowed lo hi bs a b)
  where
    by_read : (w : Option ℤ) → MatchOption w (o ≡ None) (λ n. (r : Result T E) × gives n r × (o ≡ result_ok r)) → option_map number o ≡ kept_in lo hi w
    by_read None e = ap (option_map number) e
    by_read (Some n) (r, g, e) = ap (option_map number) e ∙ law n r g

picked_none : {E : Type 0} (lo hi : ℤ) (r : Result ℤ E) → None ≡ result_ok r → picked lo hi r ≡ None
picked_none lo hi (Ok z) e = cc
picked_none lo hi (Err d) e = refl

picked_some : {E : Type 0} (lo hi n : ℤ) (r : Result ℤ E) → Some n ≡ result_ok r → picked lo hi r ≡ between lo hi n
picked_some lo hi n (Ok z) e = let q : z ≡ n = cc in ap (between lo hi) q
picked_some lo hi n (Err d) e = cc

pub wide_none : {E : Type 0} (bs : List ℕ) (r : Result ℤ E) → begins bs ≡ true → ParsesSigned w64 10 bs r → None ≡ result_ok r → whole_of wide_least wide_most bs ≡ None
wide_none {E} bs r b h e = reads_whole {E = E} wide_least wide_most bs r (search rules) (search rules) b h ∙ picked_none wide_least wide_most r e

pub wide_some : {E : Type 0} (bs : List ℕ) (r : Result ℤ E) (n : ℤ) → SFits w64 n → begins bs ≡ true → ParsesSigned w64 10 bs r → Some n ≡ result_ok r → whole_of wide_least wide_most bs ≡ Some n
wide_some {E} bs r n f b h e =
    reads_whole {E = E} wide_least wide_most bs r (search rules) (search rules) b h
    ∙ picked_some wide_least wide_most n r e
    ∙ (let t : (le_z wide_least n && le_z n wide_most) ≡ true = grind (arith, ints, f.sfits) in cond-true _ _ _ t)

-- a conversion that succeeds just for the numbers between two ends
pub decided : {T E : Type 0} (number : T → ℤ) (lo hi n : ℤ) (r : Result T E) (P : Type 0) (v : T) → OkIff r P v → (P → (lo ≤ℤ n) × ((n ≤ℤ hi) × (number v ≡ n))) → (lo ≤ℤ n → n ≤ℤ hi → P) → option_map number (result_ok r) ≡ between lo hi n
decided number lo hi n (Ok x) P v (p, e) to from =
    let a = to p in
    let t : (le_z lo n && le_z n hi) ≡ true = grind (arith, ints, a.0, a.1.0) in
    ap Some (ap number e ∙ a.1.1) ∙ sym (cond-true _ _ _ t)
decided number lo hi n (Err d) P v k to from =
    elim (cases_Bool (le_z lo n && le_z n hi)) [
      | inl t ↦ absurd (k (from (grind (arith, ints)) (grind (arith, ints))))
      | inr t ↦ sym (cond-false _ _ _ t)
    ]

-- the conversion into a type without a sign
pub unsigned_told : {E : Type 0} (k most : ℕ) (n : ℤ) (r : Result ℕ E) → most + 1 ≡ 2 ^ k → OkIff r (FitsUnsignedBits k n) (nat_abs n) → option_map (λ m. pos m) (result_ok r) ≡ between (pos 0) (pos most) n
unsigned_told k most (pos m) r e o =
    decided (λ m. pos m) (pos 0) (pos most) (pos m) r (m < 2 ^ k) m o (λ p. (omega (arith, ints), (omega (arith, ints), refl))) (λ a b. omega (arith, ints))
unsigned_told k most (negsuc m) r e o =
    decided (λ m. pos m) (pos 0) (pos most) (negsuc m) r ⊥ (suc m) o (λ p. absurd p) (λ a b. omega (arith, ints))
