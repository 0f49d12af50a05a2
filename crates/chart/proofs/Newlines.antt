-- The lines of a text.
use Rattle.std.proofs.Common.{◌≡◌, ℕ, ◌+◌, ◌<◌, ◌≤◌, Bool, true, false, not, cond, eqb, ltb, List, [], ◌∷◌, length, take, drop, Some, None, refl, ap, subst, ◌∙◌, one-add, add-one, ◌-◌, arith}
use Rattle.std.proofs.lemmas.Bool.{cond_both, ltb-false}
use Rattle.std.proofs.lemmas.List.{take_rest, take_all, at_drop_all}
use Rattle.std.specs.List.{position_or_len, onto_first}
use Rattle.chart.specs.Lines.{lines_of}

-- how many bytes stand before the first newline
abbrev pub line_end : List ℕ → ℕ
line_end bs = position_or_len (λ b. eqb b 10) bs

-- the first line, and those behind it
pub lines_first : (bs : List ℕ) → 0 < length bs → lines_of bs ≡ take (line_end bs) bs ∷ lines_of (drop (line_end bs + 1) bs)
lines_first [] h = absurd (omega arith)
lines_first (b ∷ []) h = by (eqb b 10)
  where
    by : (t : Bool) → cond t ([] ∷ []) ((b ∷ []) ∷ []) ≡ take (cond (not t) (1 + 0) 0) (b ∷ []) ∷ lines_of (drop (cond (not t) (1 + 0) 0 + 1) (b ∷ []))
    by true = refl
    by false = refl
lines_first (b ∷ c ∷ cs) h = by (eqb b 10) (line_end (c ∷ cs)) (lines_first (c ∷ cs) (omega arith))
  where
    by : (t : Bool) (n : ℕ) → lines_of (c ∷ cs) ≡ take n (c ∷ cs) ∷ lines_of (drop (n + 1) (c ∷ cs)) → cond t ([] ∷ lines_of (c ∷ cs)) (onto_first b (lines_of (c ∷ cs))) ≡ take (cond (not t) (1 + n) 0) (b ∷ c ∷ cs) ∷ lines_of (drop (cond (not t) (1 + n) 0 + 1) (b ∷ c ∷ cs))
    by true n e = refl
    by false n e = rw (one-add, add-one) (rw add-one at (ap (onto_first b) e))

-- a search found its place
pub line_found : (bs : List ℕ) (end : ℕ) → Some end ≡ cond (ltb (line_end bs) (length bs)) (Some (line_end bs)) None → 0 < length bs → lines_of bs ≡ take end bs ∷ lines_of (take (length bs - (end + 1)) (drop (end + 1) bs))
line_found bs end e h = rw (take_rest) (subst (λ n. lines_of bs ≡ take n bs ∷ lines_of (drop (n + 1) bs)) (found (ltb (line_end bs) (length bs)) (line_end bs) e) (lines_first bs h))
  where
    found : (t : Bool) (n : ℕ) → Some end ≡ cond t (Some n) None → n ≡ end
    found true n e = cc
    found false n e = cc

-- it found none
pub line_whole : (bs : List ℕ) → None ≡ cond (ltb (line_end bs) (length bs)) (Some (line_end bs)) None → 0 < length bs → lines_of bs ≡ bs ∷ []
line_whole bs e h =
    let past : length bs ≤ line_end bs = missed (line_end bs) e in
    lines_first bs h ∙ ap (λ xs. xs ∷ lines_of (drop (line_end bs + 1) bs)) (take_all (line_end bs) bs past) ∙ at_drop_all (λ xs. bs ∷ lines_of xs) bs (line_end bs + 1) (omega arith)
  where
    missed : (n : ℕ) → None ≡ cond (ltb n (length bs)) (Some n) None → length bs ≤ n
    missed n e = cond_both (ltb n (length bs)) (Some n) None (λ o. None ≡ o → length bs ≤ n) (λ _ z. absurd (let q : ◌≡◌ {A = ℕ} 0 1 = cc in omega arith)) (λ f _. ltb-false n (length bs) f) e

-- there are no more lines than bytes
pub few_lines : (bs : List ℕ) → length (lines_of bs) ≤ length bs
few_lines [] = omega arith
few_lines (b ∷ bs) = cond_both (eqb b 10) _ _ (λ ls. length ls ≤ length (b ∷ bs)) (λ _. omega (arith, few_lines bs)) (λ _. onto_few (lines_of bs) (few_lines bs))
  where
    onto_few : (ls : List (List ℕ)) → length ls ≤ length bs → length (onto_first b ls) ≤ length (b ∷ bs)
    onto_few [] h = omega arith
    onto_few (l ∷ ls) h = omega arith
