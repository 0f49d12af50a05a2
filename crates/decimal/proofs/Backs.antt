-- A spelling is read back.
use Rattle.std.proofs.Common.{◌≡◌, ℕ, zero, suc, ◌+◌, ◌-◌, ◌*◌, ◌%◌, ◌^◌, ◌<◌, ◌≤◌, Bool, true, false, List, [], ◌∷◌, ◌++◌, length, get_or, take, drop, replicate, ℤ, pos, negsuc, ◌+ℤ◌, ◌-ℤ◌, neg_ℤ, ◌≤ℤ◌, Some, decimal, Option, sym, refl, ap, ◌∙◌, inl, inr, mul_assoc, arith}
use native.Mathlib.Nat.{pow-succ'}
use lib.IntN.{+ℤ_idl, +ℤ_idr}
use Rattle.std.specs.Option.{option_map}
use Rattle.std.specs.Str.Parse.{digits_value, digits_value_after}
use Rattle.std.specs.Char.{is_ascii_digit}
use Rattle.std.specs.Fmt.{digits, sign_text}
use Rattle.decimal.specs.Normal.{Normal}
use Rattle.std.specs.Str.{all_ascii_digits}
use Rattle.std.proofs.lemmas.List.{append-nil, take_at, drop_at, length-append, length-replicate, length-take-le, length-drop, take-append-drop}
use Rattle.std.proofs.lemmas.Fmt.{digits_decimal, digits_value-decimal, decimal_nonempty, length-decimal-le}
use Rattle.std.proofs.lemmas.Int.{ints}
use Rattle.std.proofs.lemmas.Bool.{cases_lt, cases_eq, cond-true, cond-false, ne_eqb, lt-ltb, le-ltb}
use Rattle.std.proofs.lemmas.Bool.Decides.{nat_tests}
use Rattle.decimal.specs.declared.real.Real.{Real}
use Rattle.decimal.specs.Spelling.{placed, power_text, two_digits, in_fixed, spelling}
use Rattle.decimal.specs.Reading.{run_of, normal, power_digits, power_read, at_power, at_whole, unsigned_of, decimal_of}
use Rattle.protocol.proofs.Digits.{own}
use Rattle.decimal.proofs.Gathers.{all_drop}
use Rattle.decimal.proofs.Reals.{place_below, place_padded, place_pointed, place_one, place_more}
use Rattle.decimal.proofs.Readings.{value_append, normal_is, power_some}

run_append : (w rest : List ℕ) → all_ascii_digits w ≡ true → is_ascii_digit (get_or rest 0 0) ≡ false → run_of (w ++ rest) ≡ length w
run_append [] [] a n = refl
run_append [] (c ∷ cs) a n = cond-false _ _ _ n
run_append (c ∷ w) rest a n =
    let t : is_ascii_digit c ≡ true = grind (arith, nat_tests) in
    let b : all_ascii_digits w ≡ true = grind (arith, nat_tests) in
    cond-true _ _ _ t ∙ ap suc (run_append w rest b n)

parts_whole : (s : Bool) (w rest : List ℕ) → all_ascii_digits w ≡ true → 0 < length w → is_ascii_digit (get_or rest 0 0) ≡ false → unsigned_of s (w ++ rest) ≡ at_whole s w rest
parts_whole s w rest a l n =
    let r = run_append w rest a n in
    cond-false _ _ _ (ne_eqb (run_of (w ++ rest)) 0 (λ e. omega arith))
    ∙ ap (λ k. at_whole s (take k (w ++ rest)) (drop k (w ++ rest))) r
    ∙ ap (λ x. at_whole s x (drop (length w) (w ++ rest))) (take_at w rest (length w) refl)
    ∙ ap (at_whole s w) (drop_at w rest (length w) refl)

parts_point : (s : Bool) (w f rest : List ℕ) → all_ascii_digits f ≡ true → 0 < length f → is_ascii_digit (get_or rest 0 0) ≡ false → at_whole s w (46 ∷ (f ++ rest)) ≡ at_power s w f (power_read rest)
parts_point s w f rest a l n =
    let r = run_append f rest a n in
    cond-false _ _ _ (ne_eqb (run_of (f ++ rest)) 0 (λ e. omega arith))
    ∙ ap (λ k. at_power s w (take k (f ++ rest)) (power_read (drop k (f ++ rest)))) r
    ∙ ap (λ x. at_power s w x (power_read (drop (length f) (f ++ rest)))) (take_at f rest (length f) refl)
    ∙ ap (λ x. at_power s w f (power_read x)) (drop_at f rest (length f) refl)

value_zeros : (k : ℕ) (xs : List ℕ) → digits_value 10 (replicate k 48 ++ xs) ≡ digits_value 10 xs
value_zeros zero xs = refl
value_zeros (suc k) xs = value_zeros k xs

value_padded : (k m : ℕ) → digits_value_after 10 m (replicate k 48) ≡ m * 10 ^ k
value_padded zero m = omega arith
value_padded (suc k) m =
    let e : m * 10 + 0 ≡ m * 10 = omega arith in
    value_padded k (m * 10 + 0) ∙ ap (λ x. x * 10 ^ k) e ∙ mul_assoc m 10 (10 ^ k) ∙ ap (λ x. m * x) (sym (pow-succ' 10 k))

all_zeros : (k : ℕ) → all_ascii_digits (replicate k 48) ≡ true
all_zeros zero = refl
all_zeros (suc k) = all_zeros k

pub all_append : (xs ys : List ℕ) → all_ascii_digits xs ≡ true → all_ascii_digits ys ≡ true → all_ascii_digits (xs ++ ys) ≡ true
all_append [] ys a b = b
all_append (x ∷ xs) ys a b =
    let t : is_ascii_digit x ≡ true = grind (arith, nat_tests) in
    let c = all_append xs ys (grind (arith, nat_tests)) b in
    grind (arith, nat_tests)

pub all_take : (n : ℕ) (ds : List ℕ) → all_ascii_digits ds ≡ true → all_ascii_digits (take n ds) ≡ true
all_take zero ds a = refl
all_take (suc n) [] a = refl
all_take (suc n) (c ∷ cs) a =
    let t : is_ascii_digit c ≡ true = grind (arith, nat_tests) in
    let b = all_take n cs (grind (arith, nat_tests)) in
    grind (arith, nat_tests)

two_back : (n : ℕ) → n < 1000 → power_digits (two_digits n) ≡ Some n
two_back n l =
    let h : n < 2 ^ 64 = omega arith in
    let a = digits_decimal own n h in
    let v = digits_value-decimal own n h in
    let s = decimal_nonempty n h in
    elim (cases_lt n 10) [
      | inl b ↦
          let k = length-decimal-le 1 n (omega arith) (omega arith) h in
          ap power_digits (cond-true _ _ _ (lt-ltb n 10 b)) ∙ power_some (48 ∷ decimal n) a (omega arith) (omega arith) ∙ ap Some v
      | inr b ↦
          let k = length-decimal-le 3 n (omega arith) (omega arith) h in
          ap power_digits (cond-false _ _ _ (le-ltb n 10 b)) ∙ power_some (decimal n) a s (omega arith) ∙ ap Some v
    ]

power_back : (p : ℤ) → negsuc 998 ≤ℤ p → p ≤ℤ pos 999 → power_read (69 ∷ power_text p) ≡ Some p
power_back (pos n) a b = cond-false _ _ _ (ne_eqb (length (69 ∷ power_text (pos n))) 0 (λ e. omega arith)) ∙ ap (option_map (λ n. pos n)) (two_back n (omega (arith, ints)))
power_back (negsuc n) a b = cond-false _ _ _ (ne_eqb (length (69 ∷ power_text (negsuc n))) 0 (λ e. omega arith)) ∙ ap (option_map (λ n. neg_ℤ (pos n))) (two_back (suc n) (omega (arith, ints)))

abbrev result : Bool → ℕ → ℤ → Option Real
result s D e = Some (record { negative = s; digits = D; exponent = e })

plain_normal : (s : Bool) (D : ℕ) (x : ℤ) → (D % 10 ≡ 0 → ⊥) → D < 10 ^ 18 → normal s D x ≡ result s D x
plain_normal s D x n l =
    let e : D ≡ D * 10 ^ 0 = omega arith in
    ap (λ m. normal s m x) e ∙ normal_is s D 0 x n l (omega arith) ∙ ap (result s D) (+ℤ_idr x)

module _ (s : Bool) (D : ℕ) (n : D % 10 ≡ 0 → ⊥) (l : D < 10 ^ 18) (ds : List ℕ) (a : all_ascii_digits ds ≡ true) (v : digits_value 10 ds ≡ D) (o : 0 < length ds) (k : length ds ≤ 18) where
  back_below : (q : ℕ) → unsigned_of s (48 ∷ 46 ∷ (replicate q 48 ++ ds)) ≡ result s D (pos 0 -ℤ pos (q + length ds))
  back_below q =
      let f = replicate q 48 ++ ds in
      let g : length (replicate q 48 ++ ds) ≡ q + length ds = simp (length-append, length-replicate) refl in
      parts_whole s (48 ∷ []) (46 ∷ f) refl (omega arith) refl
      ∙ ap (λ x. at_whole s (48 ∷ []) (46 ∷ x)) (sym (append-nil f))
      ∙ parts_point s (48 ∷ []) f [] (all_append (replicate q 48) ds (all_zeros q) a) (omega arith) refl
      ∙ ap (λ m. normal s m (pos 0 -ℤ pos (length f))) (value_zeros q ds ∙ v)
      ∙ plain_normal s D (pos 0 -ℤ pos (length f)) n l
      ∙ ap (λ y. result s D (pos 0 -ℤ pos y)) g

  back_padded : (z : ℕ) → z ≤ 40 → unsigned_of s (ds ++ replicate z 48) ≡ result s D (pos z)
  back_padded z h =
      let w = ds ++ replicate z 48 in
      let g : 0 < length (ds ++ replicate z 48) = simp (length-append, length-replicate) (omega arith) in
      ap (unsigned_of s) (sym (append-nil w))
      ∙ parts_whole s w [] (all_append ds (replicate z 48) a (all_zeros z)) g refl
      ∙ ap (λ m. normal s m (pos 0)) (ap (digits_value 10) (append-nil w) ∙ value_append ds (replicate z 48) 0 ∙ ap (λ x. digits_value_after 10 x (replicate z 48)) v ∙ value_padded z D)
      ∙ normal_is s D z (pos 0) n l h
      ∙ ap (result s D) (+ℤ_idl (pos z))

  -- the point after j digits, and then a power
  back_pointed : (j : ℕ) (rest : List ℕ) (x : ℤ) → 0 < j → j < length ds → is_ascii_digit (get_or rest 0 0) ≡ false → power_read rest ≡ Some x → unsigned_of s (take j ds ++ (46 ∷ (drop j ds ++ rest))) ≡ result s D (x -ℤ pos (length ds - j))
  back_pointed j rest x b c r e =
      let t : length (take j ds) ≡ j = length-take-le j ds (omega arith) in
      let u : length (drop j ds) ≡ length ds - j = length-drop j ds in
      parts_whole s (take j ds) (46 ∷ (drop j ds ++ rest)) (all_take j ds a) (omega arith) refl
      ∙ parts_point s (take j ds) (drop j ds) rest (all_drop ds j a) (omega arith) r
      ∙ ap (at_power s (take j ds) (drop j ds)) e
      ∙ ap (λ m. normal s m (x -ℤ pos (length (drop j ds)))) (ap (digits_value 10) (take-append-drop j ds) ∙ v)
      ∙ plain_normal s D (x -ℤ pos (length (drop j ds))) n l
      ∙ ap (λ y. result s D (x -ℤ pos y)) u

  back_one : (rest : List ℕ) (x : ℤ) → is_ascii_digit (get_or rest 0 0) ≡ false → (get_or rest 0 0 ≡ 46 → ⊥) → power_read rest ≡ Some x → unsigned_of s (ds ++ rest) ≡ result s D x
  back_one rest x r q e =
      parts_whole s ds rest a o r
      ∙ cond-false _ _ _ (ne_eqb (get_or rest 0 0) 46 q)
      ∙ ap (at_power s ds []) e
      ∙ ap (λ m. normal s m (x -ℤ pos 0)) (ap (digits_value 10) (append-nil ds) ∙ v)
      ∙ plain_normal s D (x -ℤ pos 0) n l
      ∙ ap (result s D) (+ℤ_idr x)

  back_fixed_pos : (m : ℕ) (e : ℤ) → m ≤ 9 → pos m ≡ e +ℤ pos (length ds - 1) → unsigned_of s (placed (pos m) ds) ≡ result s D e
  back_fixed_pos m e b g =
      elim (cases_lt (m + 1) (length ds)) [
        | inl c ↦
            let y : pos 0 -ℤ pos (length ds - (m + 1)) ≡ e = omega (arith, ints) in
            ap (unsigned_of s) (place_pointed (pos m) ds (omega (arith, ints)) (omega (arith, ints)) c ∙ ap (λ x. take (m + 1) ds ++ (46 ∷ x)) (sym (append-nil (drop (m + 1) ds))))
            ∙ back_pointed (m + 1) [] (pos 0) (omega arith) c refl refl
            ∙ ap (result s D) y
        | inr c ↦
            let y : pos (m + 1 - length ds) ≡ e = omega (arith, ints) in
            ap (unsigned_of s) (place_padded (pos m) ds (omega (arith, ints)) (omega (arith, ints)) c)
            ∙ back_padded (m + 1 - length ds) (omega arith)
            ∙ ap (result s D) y
      ]

  back_fixed_neg : (m : ℕ) (e : ℤ) → m ≤ 3 → negsuc m ≡ e +ℤ pos (length ds - 1) → unsigned_of s (placed (negsuc m) ds) ≡ result s D e
  back_fixed_neg m e b g =
      let y : pos 0 -ℤ pos (suc m - 1 + length ds) ≡ e = omega (arith, ints) in
      ap (unsigned_of s) (place_below (negsuc m) ds (omega (arith, ints)) (omega (arith, ints)))
      ∙ back_below (suc m - 1)
      ∙ ap (result s D) y

  back_far : (p e : ℤ) → in_fixed p ≡ false → negsuc 998 ≤ℤ p → p ≤ℤ pos 999 → p ≡ e +ℤ pos (length ds - 1) → unsigned_of s (placed p ds) ≡ result s D e
  back_far p e f b c g =
      elim (cases_lt 1 (length ds)) [
        | inl h ↦
            let y : p -ℤ pos (length ds - 1) ≡ e = omega (arith, ints) in
            ap (unsigned_of s) (place_more p ds f h)
            ∙ back_pointed 1 (69 ∷ power_text p) p (omega arith) h refl (power_back p b c)
            ∙ ap (result s D) y
        | inr h ↦
            let y : p ≡ e = omega (arith, ints) in
            ap (unsigned_of s) (place_one p ds f (omega arith))
            ∙ back_one (69 ∷ power_text p) p refl (λ z. omega arith) (power_back p b c)
            ∙ ap (result s D) y
      ]

  back_any : (p e : ℤ) → negsuc 998 ≤ℤ p → p ≤ℤ pos 999 → p ≡ e +ℤ pos (length ds - 1) → unsigned_of s (placed p ds) ≡ result s D e
  back_any (pos m) e b c g =
      elim (cases_lt m 10) [
        | inl h ↦ back_fixed_pos m e (omega arith) g
        | inr h ↦ back_far (pos m) e (grind (arith, ints, nat_tests)) b c g
      ]
  back_any (negsuc m) e b c g =
      elim (cases_lt m 4) [
        | inl h ↦ back_fixed_neg m e (omega arith) g
        | inr h ↦ back_far (negsuc m) e (grind (arith, ints, nat_tests)) b c g
      ]

not_minus : (s : Bool) (xs : List ℕ) (d : Real) → unsigned_of s xs ≡ Some d → get_or xs 0 0 ≡ 45 → ⊥
not_minus s [] d u e = omega arith
not_minus s (c ∷ cs) d u e = cc (rw e at u)

signed_back : (s : Bool) (xs : List ℕ) (d : Real) → unsigned_of s xs ≡ Some d → decimal_of (sign_text s ++ xs) ≡ Some d
signed_back true xs d u = u
signed_back false xs d u = cond-false _ _ _ (ne_eqb (get_or xs 0 0) 45 (not_minus false xs d u)) ∙ u

zero_back : decimal_of (spelling (record { negative = false; digits = 0; exponent = pos 0 })) ≡ result false 0 (pos 0)
unfolding digits
zero_back = refl

some_back : (s : Bool) (D : ℕ) (e : ℤ) → (D % 10 ≡ 0 → ⊥) → D < 10 ^ 18 → negsuc 399 ≤ℤ e → e ≤ℤ pos 400 → decimal_of (spelling (record { negative = s; digits = D; exponent = e })) ≡ result s D e
some_back s D e n l b c =
    let h : D < 2 ^ 64 = omega arith in
    let k = length-decimal-le 18 D (omega arith) l h in
    signed_back s (placed (e +ℤ pos (length (decimal D) - 1)) (decimal D)) (record { negative = s; digits = D; exponent = e })
    (back_any s D n l (decimal D) (digits_decimal own D h) (digits_value-decimal own D h) (decimal_nonempty D h) k (e +ℤ pos (length (decimal D) - 1)) e (omega (arith, ints)) (omega (arith, ints)) refl)

-- each decimal in the normal form is read from its spelling
pub real_reads_back : (d : Real) → Normal d → negsuc 399 ≤ℤ d.exponent → d.exponent ≤ℤ pos 400 → decimal_of (spelling d) ≡ Some d
real_reads_back d m low high =
    elim (cases_eq (d.digits % 10) 0) [
      | inl z ↦ rw (m.last z) zero_back
      | inr n ↦ some_back d.negative d.digits d.exponent n m.short low high
    ]
