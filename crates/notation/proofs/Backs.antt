-- A word that is written for bytes stands for them.
use Rattle.std.proofs.Common.{◌≡◌, ℕ, suc, ◌+◌, ◌*◌, ◌/◌, ◌%◌, ◌<◌, true, false, eqb, List, [], ◌∷◌, ◌++◌, length, get_or, Some, sym, refl, ap, ◌∙◌, inl, inr, arith}
use Rattle.std.specs.List.{flat_map}
use Rattle.std.specs.Str.{bytes_eq}
use Rattle.std.proofs.lemmas.Slice.Eq.{bytes_eq-Decides}
use Rattle.std.proofs.lemmas.Bool.{cases_Bool, cond-true, cond-false, ne_eqb}
use Rattle.std.proofs.lemmas.Bool.Decides.{nat_tests}
use Rattle.notation.specs.Strings.{plain, hex_digit, digit_of, byte_of, escaped, front, front_hex, bytes_of, empty, noted_byte, word_of, WordsReadBack}
use Rattle.notation.proofs.Notes.{escaped_step, plain_step}

digit_back : (n : ℕ) → n < 16 → digit_of (hex_digit n) ≡ Some n
digit_back n h = grind (arith, nat_tests)

no_escape : (b : ℕ) (w : List ℕ) → plain b ≡ true → escaped (b ∷ w) ≡ false
no_escape b w p = grind (arith, nat_tests)

escape : (h l : ℕ) (w : List ℕ) → escaped (92 ∷ 120 ∷ h ∷ l ∷ w) ≡ true
escape h l w = grind (arith, nat_tests)

byte_back : (b : ℕ) → b < 256 → byte_of (digit_of (hex_digit (b / 16))) (digit_of (hex_digit (b % 16))) ≡ Some b
byte_back b h =
    let e : b / 16 * 16 + b % 16 ≡ b = omega arith in
    rw (digit_back (b / 16) (omega arith), digit_back (b % 16) (omega arith)) (ap Some e)

first_back : (b : ℕ) (w : List ℕ) → b < 256 → bytes_of (noted_byte b ++ w) ≡ front b (bytes_of w)
first_back b w h =
    elim (cases_Bool (plain b)) [
      | inl p ↦ ap (λ s. bytes_of (s ++ w)) (cond-true _ _ _ p) ∙ plain_step (b ∷ w) (omega arith) (no_escape b w p) ∙ cond-true _ _ _ p
      | inr p ↦ ap (λ s. bytes_of (s ++ w)) (cond-false _ _ _ p) ∙ escaped_step (92 ∷ 120 ∷ hex_digit (b / 16) ∷ hex_digit (b % 16) ∷ w) (escape (hex_digit (b / 16)) (hex_digit (b % 16)) w) ∙ ap (λ o. front_hex o (bytes_of w)) (byte_back b h)
    ]

bytes_back : (bs : List ℕ) → ((k : ℕ) → k < length bs → get_or bs k 0 < 256) → bytes_of (flat_map noted_byte bs) ≡ Some bs
bytes_back [] h = refl
bytes_back (b ∷ bs) h = first_back b (flat_map noted_byte bs) (h 0 (omega arith)) ∙ ap (front b) (bytes_back bs (λ k l. h (suc k) (omega arith)))

never : (w bs : List ℕ) → bytes_of w ≡ Some bs → w ≡ empty → ⊥
never w bs e f = let z : ◌≡◌ {A = ℕ} 0 1 = cc (sym e ∙ ap bytes_of f) in omega arith

not_empty : (w bs : List ℕ) → bytes_of w ≡ Some bs → bytes_eq w empty ≡ false
not_empty w bs e =
    elim (cases_Bool (bytes_eq w empty)) [ inl t ↦ absurd (never w bs e ((bytes_eq-Decides w empty).0 t)) | inr f ↦ f ]

pub read_back : WordsReadBack
read_back [] h = refl
read_back (b ∷ bs) h =
    let n : eqb (length (b ∷ bs)) 0 ≡ false = ne_eqb (length (b ∷ bs)) 0 (λ e. omega arith) in
    let e = bytes_back (b ∷ bs) h in
    ap word_of (cond-false _ _ _ n) ∙ cond-false _ _ _ (not_empty (flat_map noted_byte (b ∷ bs)) (b ∷ bs) e) ∙ e
