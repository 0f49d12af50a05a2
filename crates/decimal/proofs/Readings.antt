-- The parts of a text that are read as a real.
use Rattle.std.proofs.Common.{◌≡◌, ℕ, zero, suc, ◌+◌, ◌*◌, ◌/◌, ◌%◌, ◌^◌, ◌<◌, ◌≤◌, Bool, true, false, cond, ◌&&◌, eqb, ltb, List, [], ◌∷◌, ◌++◌, length, take, ℤ, pos, negsuc, ◌+ℤ◌, ◌-ℤ◌, ◌≤ℤ◌, IfSome, Some, None, Ok, Err, IsSome, IsOk, MatchResult, Option, Result, ◌⊎◌, sym, refl, ap, ◌∙◌, inl, inr, mul-div_cancel, one-add, arith, w16, SFits, to_z, of_z}
use native.Mathlib.Nat.{one-le-pow, zero-div}
use mir.Val.{hbits}
use Rattle.std.specs.List.{prefix_len}
use Rattle.std.specs.Option.{option_map}
use Rattle.std.specs.Result.{result_ok}
use Rattle.std.specs.Str.Parse.{digits_value, digits_value_after, ParsesSigned}
use Rattle.std.proofs.lemmas.Str.Parse.{parse_signed_digits, digits_value_short}
use Rattle.protocol.proofs.Digits.{own}
use Rattle.std.specs.Char.{is_ascii_digit, digit_value}
use Rattle.std.specs.Str.{all_ascii_digits}
use Rattle.std.proofs.lemmas.Int.{ints, to_z-of_z, to_z_pos}
use Rattle.std.proofs.lemmas.Bool.{cases_Bool, cases_lt, cond-true, cond-false, eq-eqb, ne_eqb, eqb-true, lt-ltb, le-ltb}
use Rattle.std.proofs.lemmas.Bool.Decides.{nat_tests}
use Rattle.decimal.specs.Gather.{TooLong}
use Rattle.decimal.specs.Reading.{run_of, tens_of, tens, normal, at_power, power_read, power_digits}
use Rattle.decimal.proofs.Gathers.{shift}
use Rattle.decimal.proofs.Reals.{fits16}

-- what a chain counts
pub run_is : (ds : List ℕ) → prefix_len is_ascii_digit ds ≡ run_of ds
run_is [] = refl
run_is (c ∷ cs) = rw (run_is cs, one-add) refl

pub run_le : (ds : List ℕ) → run_of ds ≤ length ds
run_le [] = omega arith
run_le (c ∷ cs) =
    elim (cases_Bool (is_ascii_digit c)) [
      | inl t ↦ omega (arith, run_le cs, cond-true (is_ascii_digit c) (suc (run_of cs)) 0 t)
      | inr t ↦ omega (arith, cond-false (is_ascii_digit c) (suc (run_of cs)) 0 t)
    ]

pub run_all : (ds : List ℕ) → all_ascii_digits ds ≡ true → run_of ds ≡ length ds
run_all [] a = refl
run_all (c ∷ cs) a =
    let t : is_ascii_digit c ≡ true = grind (arith, nat_tests) in
    let b : all_ascii_digits cs ≡ true = grind (arith, nat_tests) in
    cond-true _ _ _ t ∙ ap suc (run_all cs b)

pub all_run : (ds : List ℕ) → run_of ds ≡ length ds → all_ascii_digits ds ≡ true
all_run [] e = refl
all_run (c ∷ cs) e =
    elim (cases_Bool (is_ascii_digit c)) [
      | inl t ↦
          let r : run_of cs ≡ length cs = omega (arith, e, cond-true (is_ascii_digit c) (suc (run_of cs)) 0 t) in
          let b = all_run cs r in grind (arith, nat_tests)
      | inr t ↦ absurd (omega (arith, e, cond-false (is_ascii_digit c) (suc (run_of cs)) 0 t))
    ]

pub not_all : (ds : List ℕ) → run_of ds < length ds → all_ascii_digits ds ≡ false
not_all ds l = elim (cases_Bool (all_ascii_digits ds)) [ inl t ↦ absurd (omega (arith, run_all ds t)) | inr t ↦ t ]

pub run_digits : (ds : List ℕ) → all_ascii_digits (take (run_of ds) ds) ≡ true
run_digits [] = refl
run_digits (c ∷ cs) =
    elim (cases_Bool (is_ascii_digit c)) [
      | inl t ↦
          let b = run_digits cs in
          let e : take (cond (is_ascii_digit c) (suc (run_of cs)) 0) (c ∷ cs) ≡ c ∷ take (run_of cs) cs = ap (λ n. take n (c ∷ cs)) (cond-true (is_ascii_digit c) (suc (run_of cs)) 0 t) in
          rw e (grind (arith, nat_tests))
      | inr t ↦
          let e : take (cond (is_ascii_digit c) (suc (run_of cs)) 0) (c ∷ cs) ≡ [] = ap (λ n. take n (c ∷ cs)) (cond-false (is_ascii_digit c) (suc (run_of cs)) 0 t) in
          rw e refl
    ]

pub value_append : (xs ys : List ℕ) (m : ℕ) → digits_value_after 10 m (xs ++ ys) ≡ digits_value_after 10 (digits_value_after 10 m xs) ys
value_append [] ys m = refl
value_append (x ∷ xs) ys m = value_append xs ys (m * 10 + digit_value x)

tens_is : (k d z : ℕ) → z ≤ k → (d % 10 ≡ 0 → ⊥) → tens_of k (d * 10 ^ z) ≡ z
tens_is zero d zero h n = refl
tens_is zero d (suc z) h n = absurd (omega arith)
tens_is (suc k) d zero h n =
    let e : d * 1 ≡ d = omega arith in
    cond-false _ _ _ (ne_eqb (d * 1 % 10) 0 (λ z. n (ap (λ x. x % 10) (sym e) ∙ z)))
tens_is (suc k) d (suc z) h n =
    let s = shift d z in
    let a : d * 10 ^ suc z % 10 ≡ 0 = omega arith in
    let b : d * 10 ^ suc z / 10 ≡ d * 10 ^ z = omega arith in
    cond-true _ _ _ (eq-eqb _ _ a) ∙ ap suc (ap (tens_of k) b ∙ tens_is k d z (omega arith) n)

tens_split : (k m : ℕ) → (c : ℕ) × (m ≡ c * 10 ^ tens_of k m)
tens_split zero m = (m, omega arith)
tens_split (suc k) m =
    elim (cases_Bool (eqb (m % 10) 0)) [
      | inl t ↦
          let r = tens_split k (m / 10) in
          let z = eqb-true (m % 10) 0 t in
          let u : tens_of (suc k) m ≡ suc (tens_of k (m / 10)) = cond-true _ _ _ t in
          (r.0, (let w : m ≡ m / 10 * 10 = omega arith in w ∙ ap (λ x. x * 10) r.1 ∙ sym (shift r.0 (tens_of k (m / 10))) ∙ ap (λ x. r.0 * 10 ^ x) (sym u)))
      | inr t ↦
          let u : tens_of (suc k) m ≡ 0 = cond-false _ _ _ t in
          (m, (let w : m ≡ m * 10 ^ 0 = omega arith in w ∙ ap (λ x. m * 10 ^ x) (sym u)))
    ]

tens_at : (d z : ℕ) → z ≤ 40 → (d % 10 ≡ 0 → ⊥) → tens (d * 10 ^ z) ≡ z
unfolding tens
tens_at d z h n = tens_is 40 d z h n

tens_parts : (m : ℕ) → (c : ℕ) × (m ≡ c * 10 ^ tens m)
unfolding tens
tens_parts m = tens_split 40 m

pub normal_zero : (s : Bool) (m : ℕ) (x : ℤ) → m ≡ 0 → normal s m x ≡ Some (record { negative = false; digits = 0; exponent = pos 0 })
normal_zero s m x e = cond-true _ _ _ (eq-eqb m 0 e)

pub normal_is : (s : Bool) (d z : ℕ) (x : ℤ) → (d % 10 ≡ 0 → ⊥) → d < 10 ^ 18 → z ≤ 40 → normal s (d * 10 ^ z) x ≡ Some (record { negative = s; digits = d; exponent = x +ℤ pos z })
normal_is s d z x n l h =
    let p : 1 ≤ 10 ^ z = one-le-pow z 10 (omega arith) in
    let t : tens (d * 10 ^ z) ≡ z = tens_at d z h n in
    let q : d * 10 ^ z / 10 ^ tens (d * 10 ^ z) ≡ d = ap (λ y. d * 10 ^ z / 10 ^ y) t ∙ mul-div_cancel d p in
    let o : d * 10 ^ z ≡ 0 → ⊥ = λ e. n (ap (λ y. y % 10) (sym (mul-div_cancel d p) ∙ ap (λ y. y / 10 ^ z) e ∙ zero-div (10 ^ z))) in
    cond-false _ _ _ (ne_eqb (d * 10 ^ z) 0 o)
    ∙ cond-true _ _ _ (lt-ltb (d * 10 ^ z / 10 ^ tens (d * 10 ^ z)) (10 ^ 18) (rw q l))
    ∙ rw (q, t) refl

pub normal_long : (s : Bool) (m : ℕ) (x : ℤ) → TooLong m → normal s m x ≡ None
normal_long s m x l =
    let r = tens_parts m in
    let p : 1 ≤ 10 ^ tens m = one-le-pow (tens m) 10 (omega arith) in
    let q : m / 10 ^ tens m ≡ r.0 = ap (λ y. y / 10 ^ tens m) r.1 ∙ mul-div_cancel r.0 p in
    let b = l r.0 (tens m) r.1 in
    let o : m ≡ 0 → ⊥ = λ e. omega (arith, l 0 0 (omega arith)) in
    cond-false _ _ _ (ne_eqb m 0 o) ∙ cond-false _ _ _ (le-ltb (m / 10 ^ tens m) (10 ^ 18) (rw q b))

pub difference_in : (z : ℤ) (n : ℕ) → negsuc 1998 ≤ℤ z → z ≤ℤ pos 1999 → n ≤ 99 → to_z w16 (of_z w16 (to_z w16 (of_z w16 z) -ℤ to_z w16 n)) ≡ z -ℤ pos n
difference_in z n a b l =
    let f : SFits w16 z = fits16 z (omega (arith, ints)) (omega (arith, ints)) in
    let g : n < 2 ^ hbits w16 = omega arith in
    let h : SFits w16 (z -ℤ pos n) = fits16 (z -ℤ pos n) (omega (arith, ints)) (omega (arith, ints)) in
    simp (to_z-of_z, to_z_pos) refl

pub together : (s : Bool) (whole fraction rest : List ℕ) (x : ℤ) → Some x ≡ power_read rest → at_power s whole fraction (power_read rest) ≡ normal s (digits_value_after 10 (digits_value_after 10 0 whole) fraction) (x -ℤ pos (length fraction))
together s whole fraction rest x e =
    ap (at_power s whole fraction) (sym e) ∙ ap (λ m. normal s m (x -ℤ pos (length fraction))) (value_append whole fraction 0)

pub power_some : (ds : List ℕ) → all_ascii_digits ds ≡ true → 0 < length ds → length ds < 4 → power_digits ds ≡ Some (digits_value 10 ds)
power_some ds a b d = let t : (all_ascii_digits ds && (ltb 0 (length ds) && ltb (length ds) 4)) ≡ true = grind (arith, nat_tests) in cond-true _ _ _ t

pub power_none : (ds : List ℕ) → (all_ascii_digits ds && (ltb 0 (length ds) && ltb (length ds) 4)) ≡ false → power_digits ds ≡ None
power_none ds t = cond-false _ _ _ t

-- of a power's digits: not all digits, or more than three
pub power_unread : (ds : List ℕ) → (run_of ds < length ds) ⊎ (3 < length ds) → power_digits ds ≡ None
power_unread ds (inl l) = let n = not_all ds l in power_none ds (grind (arith, nat_tests))
power_unread ds (inr l) = power_none ds (grind (arith, nat_tests))

pub power_parsed : {E : Type 0} (ds : List ℕ) (r : Result ℤ E) → ParsesSigned w16 10 ds r → all_ascii_digits ds ≡ true → length ds < 4 → result_ok r ≡ option_map (λ n. pos n) (power_digits ds)
power_parsed {E} ds (Ok z) h a l =
    let k = parse_signed_digits own {E = E} w16 ds (Ok z) h a in
    ap Some k.1 ∙ sym (ap (option_map (λ n. pos n)) (power_some ds a k.0.0 l))
power_parsed {E} ds (Err e) h a l =
    let k = parse_signed_digits own {E = E} w16 ds (Err e) h a in
    let b : digits_value 10 ds < 10 ^ 3 = digits_value_short own ds 3 a (omega arith) in
    elim (cases_lt 0 (length ds)) [
      | inl o ↦ absurd (k (o, omega arith))
      | inr o ↦ sym (ap (option_map (λ n. pos n)) (power_none ds (grind (arith, nat_tests))))
    ]

pub power_bound : (ds : List ℕ) → IfSome (option_map (λ n. pos n) (power_digits ds)) (λ z. (pos 0 ≤ℤ z) × (z ≤ℤ pos 999))
power_bound ds =
    elim (cases_Bool (all_ascii_digits ds && (ltb 0 (length ds) && ltb (length ds) 4))) [
      | inl t ↦
          let a : all_ascii_digits ds ≡ true = grind (arith, nat_tests) in
          let b : digits_value 10 ds < 10 ^ 3 = digits_value_short own ds 3 a (grind (arith, nat_tests)) in
          rw (power_some ds a (grind (arith, nat_tests)) (grind (arith, nat_tests))) (omega (arith, ints), omega (arith, ints))
      | inr t ↦ rw (power_none ds t) tt
    ]

-- of a call's result
pub told_ok : {T E : Type 0} (r : Result T E) (P : T → Type 0) (Q : E → Type 0) → MatchResult r P Q → ((e : E) → Q e → ⊥) → IsOk r
told_ok (Ok x) P Q m n = refl
told_ok (Err e) P Q m n = absurd (n e m)

pub some_made : {A B : Type 0} (f : A → B) (o : Option A) (y : B) → option_map f o ≡ Some y → IsSome o
some_made f None y e = cc
some_made f (Some x) y e = refl
