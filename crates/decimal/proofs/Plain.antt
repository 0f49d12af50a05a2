-- A spelling is a text: of digits, a point, E and signs, and not long.
use Rattle.std.proofs.Common.{◌≡◌, ℕ, zero, suc, ◌+◌, ◌-◌, ◌^◌, ◌<◌, ◌≤◌, Bool, true, false, ◌&&◌, ◌||◌, eqb, List, [], ◌∷◌, ◌++◌, length, take, drop, replicate, ℤ, pos, negsuc, ◌+ℤ◌, nat_abs, ◌≤ℤ◌, IsAscii, decimal, sym, refl, ap, ◌∙◌, subst, inl, inr, arith}
use Rattle.std.specs.Char.{is_ascii_digit}
use Rattle.std.specs.Fmt.{sign_text}
use Rattle.std.specs.Str.{all_ascii_digits}
use Rattle.std.proofs.lemmas.Str.Ascii.{IsAscii-cons, IsAscii-nil}
use Rattle.std.proofs.lemmas.Fmt.{digits_decimal, decimal_nonempty, length-decimal-le}
use Rattle.std.proofs.lemmas.List.{append-nil, length-append, length-replicate, length-take-le, length-drop}
use Rattle.std.proofs.lemmas.Int.{ints}
use Rattle.std.proofs.lemmas.Bool.{cases_lt, and_from, and_parts, le-leb, cond-true, cond-false, lt-ltb, le-ltb}
use Rattle.std.proofs.lemmas.Str.{IsUtf8-from_ascii}
use Rattle.std.proofs.lemmas.Bool.Decides.{nat_tests}
use Rattle.protocol.specs.Texts.{free, textual}
use Rattle.protocol.proofs.Digits.{own}
use Rattle.protocol.proofs.PlainText.{utf8_decides}
use Rattle.decimal.specs.declared.real.Real.{Real}
use Rattle.decimal.specs.Normal.{Normal}
use Rattle.decimal.specs.Spelling.{spelling, placed, power_text, two_digits, in_fixed}
use Rattle.decimal.proofs.Gathers.{all_drop}
use Rattle.decimal.proofs.Backs.{all_take}
use Rattle.decimal.proofs.Reals.{place_below, place_padded, place_pointed, place_one, place_more}

-- a digit, a point, E or a sign
abbrev figure : ℕ → Bool
figure b = is_ascii_digit b || (eqb b 46 || (eqb b 69 || (eqb b 43 || eqb b 45)))

abbrev figures : List ℕ → Bool
figures [] = true
figures (b ∷ bs) = figure b && figures bs

figures_append : (xs ys : List ℕ) → figures xs ≡ true → figures ys ≡ true → figures (xs ++ ys) ≡ true
figures_append [] ys a b = b
figures_append (x ∷ xs) ys a b =
    let p = and_parts (figure x) _ a in
    and_from _ _ p.0 (figures_append xs ys p.1 b)

figures_digits : (ds : List ℕ) → all_ascii_digits ds ≡ true → figures ds ≡ true
figures_digits [] a = refl
figures_digits (c ∷ cs) a =
    let p = and_parts (is_ascii_digit c) _ a in
    let f : figure c ≡ true = grind (arith, nat_tests) in
    and_from _ _ f (figures_digits cs p.1)

figures_zeros : (n : ℕ) → figures (replicate n 48) ≡ true
figures_zeros zero = refl
figures_zeros (suc n) = figures_zeros n

figures_free : (bs : List ℕ) → figures bs ≡ true → free bs ≡ true
figures_free [] a = refl
figures_free (b ∷ bs) a =
    let p = and_parts (figure b) _ a in
    let r = figures_free bs p.1 in
    grind (arith, nat_tests)

figures_ascii : (bs : List ℕ) → figures bs ≡ true → IsAscii bs
figures_ascii [] a = IsAscii-nil
figures_ascii (b ∷ bs) a =
    let p = and_parts (figure b) _ a in
    IsAscii-cons b bs (grind (arith, nat_tests)) (figures_ascii bs p.1)

pub figures_textual : (bs : List ℕ) → figures bs ≡ true → 1 ≤ length bs → length bs ≤ 40 → textual bs ≡ true
figures_textual bs f a b =
    and_from _ _ (and_from _ _ (le-leb 1 (length bs) a) (le-leb (length bs) 40 b))
    (and_from _ _ (figures_free bs f) ((utf8_decides bs).1 (IsUtf8-from_ascii bs (figures_ascii bs f))))

-- figures, and how many
record Figured (bs : List ℕ) (most : ℕ) : Type 0 where
  all : figures bs ≡ true
  some : 1 ≤ length bs
  few : length bs ≤ most

figured_at : (bs cs : List ℕ) (most : ℕ) → bs ≡ cs → figures cs ≡ true → 1 ≤ length cs → length cs ≤ most → Figured bs most
figured_at bs cs most e a b d = subst (λ x. Figured x most) (sym e) (record { all = a; some = b; few = d })

two_figured : (n : ℕ) → n < 1000 → Figured (two_digits n) 3
two_figured n l =
    let h : n < 2 ^ 64 = omega arith in
    let a = figures_digits (decimal n) (digits_decimal own n h) in
    let s = decimal_nonempty n h in
    elim (cases_lt n 10) [
      | inl b ↦
          let k = length-decimal-le 1 n (omega arith) (omega arith) h in
          figured_at (two_digits n) (48 ∷ decimal n) 3 (cond-true _ _ _ (lt-ltb n 10 b)) a (omega arith) (omega arith)
      | inr b ↦
          let k = length-decimal-le 3 n (omega arith) (omega arith) h in
          figured_at (two_digits n) (decimal n) 3 (cond-false _ _ _ (le-ltb n 10 b)) a s k
    ]

power_figured : (p : ℤ) → negsuc 998 ≤ℤ p → p ≤ℤ pos 999 → Figured (69 ∷ power_text p) 5
power_figured (pos n) a b = let t = two_figured n (omega (arith, ints)) in record { all = t.all; some = omega arith; few = omega (arith, t.few) }
power_figured (negsuc n) a b = let t = two_figured (suc n) (omega (arith, ints)) in record { all = t.all; some = omega arith; few = omega (arith, t.few) }

module _ (ds : List ℕ) (a : all_ascii_digits ds ≡ true) (o : 0 < length ds) (k : length ds ≤ 18) where
  below_figured : (p : ℤ) → negsuc 3 ≤ℤ p → p ≤ℤ negsuc 0 → nat_abs p ≤ 4 → Figured (placed p ds) 24
  below_figured p u v w =
      let z = replicate (nat_abs p - 1) 48 in
      let l : length (replicate (nat_abs p - 1) 48 ++ ds) ≡ nat_abs p - 1 + length ds = length-append (replicate (nat_abs p - 1) 48) ds ∙ ap (λ n. n + length ds) (length-replicate (nat_abs p - 1) 48) in
      figured_at (placed p ds) (48 ∷ 46 ∷ (z ++ ds)) 24 (place_below p ds u v) (figures_append z ds (figures_zeros (nat_abs p - 1)) (figures_digits ds a)) (omega (arith, l)) (omega (arith, l))

  padded_figured : (p : ℤ) → pos 0 ≤ℤ p → p ≤ℤ pos 9 → nat_abs p ≤ 9 → length ds ≤ nat_abs p + 1 → Figured (placed p ds) 24
  padded_figured p u v w h =
      let z = replicate (nat_abs p + 1 - length ds) 48 in
      let l : length (ds ++ replicate (nat_abs p + 1 - length ds) 48) ≡ length ds + (nat_abs p + 1 - length ds) = length-append ds z ∙ ap (λ n. length ds + n) (length-replicate (nat_abs p + 1 - length ds) 48) in
      figured_at (placed p ds) (ds ++ z) 24 (place_padded p ds u v h) (figures_append ds z (figures_digits ds a) (figures_zeros (nat_abs p + 1 - length ds))) (omega (arith, l)) (omega (arith, l))

  -- a point after j digits, and more behind
  cut_figured : (j m : ℕ) (rest bs : List ℕ) → 0 < j → j < length ds → bs ≡ take j ds ++ (46 ∷ (drop j ds ++ rest)) → figures rest ≡ true → length rest ≤ m → Figured bs (19 + m)
  cut_figured j m rest bs x y e f g =
      let t : length (take j ds) ≡ j = length-take-le j ds (omega arith) in
      let d : length (drop j ds) ≡ length ds - j = length-drop j ds in
      let q : length (drop j ds ++ rest) ≡ length (drop j ds) + length rest = length-append (drop j ds) rest in
      let l : length (take j ds ++ (46 ∷ (drop j ds ++ rest))) ≡ length (take j ds) + suc (length (drop j ds ++ rest)) = length-append (take j ds) (46 ∷ (drop j ds ++ rest)) in
      figured_at bs (take j ds ++ (46 ∷ (drop j ds ++ rest))) (19 + m) e
      (figures_append (take j ds) (46 ∷ (drop j ds ++ rest)) (figures_digits (take j ds) (all_take j ds a)) (figures_append (drop j ds) rest (figures_digits (drop j ds) (all_drop ds j a)) f))
      (omega arith) (omega arith)

  pointed_figured : (p : ℤ) → pos 0 ≤ℤ p → p ≤ℤ pos 9 → nat_abs p + 1 < length ds → Figured (placed p ds) 24
  pointed_figured p u v h =
      let e = place_pointed p ds u v h ∙ ap (λ x. take (nat_abs p + 1) ds ++ (46 ∷ x)) (sym (append-nil (drop (nat_abs p + 1) ds))) in
      cut_figured (nat_abs p + 1) 5 [] (placed p ds) (omega arith) h e refl (omega arith)

  far_figured : (p : ℤ) → in_fixed p ≡ false → negsuc 998 ≤ℤ p → p ≤ℤ pos 999 → Figured (placed p ds) 24
  far_figured p f u v =
      let t = power_figured p u v in
      elim (cases_lt 1 (length ds)) [
        | inl h ↦ cut_figured 1 5 (69 ∷ power_text p) (placed p ds) (omega arith) h (place_more p ds f h) t.all t.few
        | inr h ↦
            let l : length (ds ++ (69 ∷ power_text p)) ≡ length ds + length (69 ∷ power_text p) = length-append ds (69 ∷ power_text p) in
            figured_at (placed p ds) (ds ++ (69 ∷ power_text p)) 24 (place_one p ds f (omega arith)) (figures_append ds (69 ∷ power_text p) (figures_digits ds a) t.all) (omega (arith, l)) (omega (arith, l, t.few))
      ]

  placed_figured : (p : ℤ) → negsuc 998 ≤ℤ p → p ≤ℤ pos 999 → Figured (placed p ds) 24
  placed_figured (pos m) u v =
      elim (cases_lt m 10) [
        | inl h ↦
            elim (cases_lt (m + 1) (length ds)) [
              | inl b ↦ pointed_figured (pos m) (omega (arith, ints)) (omega (arith, ints)) b
              | inr b ↦ padded_figured (pos m) (omega (arith, ints)) (omega (arith, ints)) (omega arith) b
            ]
        | inr h ↦ far_figured (pos m) (grind (arith, ints, nat_tests)) u v
      ]
  placed_figured (negsuc m) u v =
      elim (cases_lt m 4) [
        | inl h ↦ below_figured (negsuc m) (omega (arith, ints)) (omega (arith, ints)) (omega arith)
        | inr h ↦ far_figured (negsuc m) (grind (arith, ints, nat_tests)) u v
      ]

signed_figured : (s : Bool) (bs : List ℕ) → Figured bs 24 → Figured (sign_text s ++ bs) 25
signed_figured true bs f = record { all = f.all; some = omega arith; few = omega (arith, f.few) }
signed_figured false bs f = record { all = f.all; some = f.some; few = omega (arith, f.few) }

-- the spelling of a decimal in the normal form is a text
pub spelling_textual : (d : Real) → Normal d → negsuc 399 ≤ℤ d.exponent → d.exponent ≤ℤ pos 400 → textual (spelling d) ≡ true
spelling_textual d n u v =
    let h : d.digits < 2 ^ 64 = omega (arith, n.short) in
    let k = length-decimal-le 18 d.digits (omega arith) n.short h in
    let f = signed_figured d.negative _ (placed_figured (decimal d.digits) (digits_decimal own d.digits h) (decimal_nonempty d.digits h) k (d.exponent +ℤ pos (length (decimal d.digits) - 1)) (omega (arith, ints)) (omega (arith, ints))) in
    figures_textual (spelling d) f.all f.some (omega (arith, f.few))
