-- The words of a line: the spaces in front, and the first word behind them.
use Rattle.std.proofs.Common.{◌≡◌, ℕ, ◌+◌, ◌<◌, Bool, true, not, eqb, ltb, List, [], ◌∷◌, ◌++◌, length, get_or, take, drop, Some, None, refl, ap, ◌∙◌, sym, append_assoc, append-nil, inl, inr, unwrap_or, arith, length-drop, one-add}
use Rattle.std.specs.List.{position, position_or_len}
use Rattle.std.proofs.lemmas.Bool.{cases_Bool, cond-true, cond-false, false≢true, ne_eqb}
use Rattle.std.proofs.lemmas.List.{at_drop_all, get_or-drop}
use Rattle.std.proofs.lemmas.List.Quantifiers.{position-Some}
use Rattle.std.proofs.lemmas.List.Sums.{prefix_len-le-length}
use borrow.Author.Tests.{ltb-false}
use Rattle.notation.specs.Lines.{unless_empty, words_behind, words_of}

abbrev pub is_space : ℕ → Bool
is_space b = eqb b 32

abbrev pub is_letter : ℕ → Bool
is_letter b = not (eqb b 32)

-- spaces in front count for nothing
spaces_off : (line : List ℕ) → words_of (drop (position_or_len is_letter line) line) ≡ words_of line
spaces_off [] = refl
spaces_off (b ∷ line) = elim (cases_Bool (eqb b 32)) [ inl e ↦ rw (e, one-add) (spaces_off line) | inr e ↦ rw (e, e) refl ]

-- a word goes up to the next space
word_off : (word text : List ℕ) → words_behind word text ≡ unless_empty (word ++ take (position_or_len is_space text) text) (words_of (drop (position_or_len is_space text) text))
word_off word [] = rw (append-nil word) refl
word_off word (b ∷ text) = elim (cases_Bool (eqb b 32)) [
  | inl e ↦ rw (e, append-nil word, e) refl
  | inr e ↦ rw (e, one-add) (word_off (word ++ b ∷ []) text ∙ ap (λ w. unless_empty w (words_of (drop (position_or_len is_space text) text))) (append_assoc word (b ∷ []) (take (position_or_len is_space text) text)))
]

-- where a test passes first, or the end
first_or_end : (p : ℕ → Bool) (xs : List ℕ) → unwrap_or (position p xs) (length xs) ≡ position_or_len p xs
first_or_end p xs = elim (cases_Bool (ltb (position_or_len p xs) (length xs))) [
  | inl t ↦ ap (λ o. unwrap_or o (length xs)) (cond-true _ _ _ t)
  | inr f ↦ ap (λ o. unwrap_or o (length xs)) (cond-false _ _ _ f) ∙ omega (arith, prefix_len-le-length (λ x. not (p x)) xs, ltb-false _ _ f)
]

-- the first place of one that passes
first_place : (p : ℕ → Bool) (xs : List ℕ) (i : ℕ) → Some i ≡ position p xs → i ≡ position_or_len p xs
first_place p xs i e = elim (cases_Bool (ltb (position_or_len p xs) (length xs))) [
  | inl t ↦ cc (e ∙ cond-true _ _ _ t)
  | inr f ↦ cc (e ∙ cond-false _ _ _ f)
]

head_of_rest : (xs : List ℕ) (m : ℕ) → get_or (drop m xs) 0 0 ≡ get_or xs m 0
head_of_rest xs m = let z : m + 0 ≡ m = omega arith in get_or-drop m xs 0 0 ∙ ap (λ k. get_or xs k 0) z

-- a line of spaces has no word
pub no_word : (line : List ℕ) → None ≡ position is_letter line → words_of line ≡ []
no_word line e = elim (cases_Bool (ltb (position_or_len is_letter line) (length line))) [
  | inl t ↦ cc (e ∙ cond-true _ _ _ t)
  | inr f ↦ sym (spaces_off line) ∙ at_drop_all words_of line (position_or_len is_letter line) (ltb-false _ _ f)
]

-- the word is there
word_there : (text : List ℕ) → 0 < length text → is_letter (get_or text 0 0) ≡ true → 0 < length (take (position_or_len is_space text) text)
word_there [] h e = absurd (omega arith)
word_there (b ∷ text) h e = elim (cases_Bool (eqb b 32)) [ inl t ↦ absurd (false≢true (ap not (sym t) ∙ e)) | inr f ↦ rw (f, one-add) (omega arith) ]

-- the first word, from the first letter up to the next space or the end
pub next_word : (line : List ℕ) (m n : ℕ) → Some m ≡ position is_letter line → n ≡ unwrap_or (position is_space (drop m line)) (length (drop m line)) → words_of line ≡ take n (drop m line) ∷ words_of (drop n (drop m line))
next_word line m n e f =
    let s = position-Some is_letter line m 0 (sym e) in
    let i : m ≡ position_or_len is_letter line = first_place is_letter line m e in
    let text = drop m line in
    let j : n ≡ position_or_len is_space text = f ∙ first_or_end is_space text in
    let there : 0 < length (take n text) = rw j (word_there text (omega (arith, length-drop m line, s.0)) (ap is_letter (head_of_rest line m) ∙ s.1)) in
    let off : words_of text ≡ unless_empty (take n text) (words_of (drop n text)) = rw j (word_off [] text) in
    sym (spaces_off line) ∙ ap (λ k. words_of (drop k line)) (sym i) ∙ off ∙ cond-false _ _ _ (ne_eqb (length (take n text)) 0 (λ z. omega arith))
