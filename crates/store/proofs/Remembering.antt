-- A list of calls, one more at a time, and the law of stores over it.
use Rattle.std.proofs.Common.{◌≡◌, ℕ, zero, suc, ◌+◌, ◌<◌, ◌≤◌, true, List, [], ◌∷◌, ◌++◌, map, length, get_or, take, drop, Option, Result, sym, refl, ap, ◌∙◌, ap₂, subst₂, append_assoc, append-nil, arith}
use Rattle.std.proofs.lemmas.List.{map_push, at_drop_more, at_drop_all}
use Rattle.store.specs.Contents.{Contents, Reading, typed, found, inside}
use Rattle.store.specs.Runs.{answered, answer_of, after_step, answers_of, after_of, left_by, latest, Remembers}
use Rattle.protocol.specs.declared.code.Code.{Code}
use Rattle.value.specs.declared.value.Value.{Value}
use Rattle.store.specs.declared.step.Step.{Step}
use Rattle.store.specs.declared.step.Step.TheVariants as S
use Rattle.store.specs.Writings.{read_inside}
use Rattle.store.proofs.Wrote.{write_low, write_high, write_leaves}

-- x is what stands at k
pub answers_more : (m n : Contents) (rs qs : List (Result (Option Value) Code)) (xs : List Step) (k : ℕ) (x : Step) (r : Result (Option Value) Code) → k < length xs → x ≡ get_or xs k x → answered r ≡ answer_of m x → n ≡ after_step m x → qs ≡ rs ++ r ∷ [] → map answered qs ++ answers_of n (drop (k + 1) xs) ≡ map answered rs ++ answers_of m (drop k xs)
answers_more m n rs qs xs k x r h is a b e =
    ap (λ q. q ++ answers_of n (drop (k + 1) xs)) (ap (map answered) e ∙ map_push answered rs r)
    ∙ append_assoc (map answered rs) (answered r ∷ []) (answers_of n (drop (k + 1) xs))
    ∙ ap (λ q. map answered rs ++ q) (ap₂ (λ q c. q ∷ answers_of c (drop (k + 1) xs)) a b ∙ sym (at_drop_more (answers_of m) xs k x h ∙ ap (λ y. answers_of m (y ∷ drop (k + 1) xs)) (sym is)))

pub after_more : (m n : Contents) (xs : List Step) (k : ℕ) (x : Step) → k < length xs → x ≡ get_or xs k x → n ≡ after_step m x → after_of n (drop (k + 1) xs) ≡ after_of m (drop k xs)
after_more m n xs k x h is b =
    ap (λ c. after_of c (drop (k + 1) xs)) b ∙ sym (at_drop_more (after_of m) xs k x h ∙ ap (λ y. after_of m (y ∷ drop (k + 1) xs)) (sym is))

step_low : (c : Contents) (s : Step) → (after_step c s).low ≡ c.low
step_low c (S.Read i) = refl
step_low c (S.Write i v) = write_low c i (typed v)

step_high : (c : Contents) (s : Step) → (after_step c s).high ≡ c.high
step_high c (S.Read i) = refl
step_high c (S.Write i v) = write_high c i (typed v)

step_leaves : (c : Contents) (s : Step) (i : ℕ) → (after_step c s).element i ≡ left_by (c.element i) i s (answer_of c s)
step_leaves c (S.Read j) i = refl
step_leaves c (S.Write j v) i = write_leaves c j (typed v) i

run_low : (c : Contents) (ss : List Step) → (after_of c ss).low ≡ c.low
run_low c [] = refl
run_low c (s ∷ ss) = run_low (after_step c s) ss ∙ step_low c s

run_high : (c : Contents) (ss : List Step) → (after_of c ss).high ≡ c.high
run_high c [] = refl
run_high c (s ∷ ss) = run_high (after_step c s) ss ∙ step_high c s

run_elements : (c : Contents) (ss : List Step) (i : ℕ) → (after_of c ss).element i ≡ latest (c.element i) i ss (answers_of c ss)
run_elements c [] i = refl
run_elements c (s ∷ ss) i =
    run_elements (after_step c s) ss i ∙ ap (λ o. latest o i ss (answers_of (after_step c s) ss)) (step_leaves c s i)

still_inside : (c : Contents) (s : Step) (i : ℕ) → inside c i ≡ true → inside (after_step c s) i ≡ true
still_inside c s i h = rw (step_low c s, step_high c s) h

run_reads : (c : Contents) (ss : List Step) (n i : ℕ) (s : Step) (r : Reading) → n < length ss → get_or ss n s ≡ S.Read i → inside c i ≡ true → get_or (answers_of c ss) n r ≡ found (latest (c.element i) i (take n ss) (take n (answers_of c ss)))
run_reads c [] n i s r h e k = absurd (omega arith)
run_reads c (x ∷ xs) zero i s r h e k = ap (answer_of c) e ∙ read_inside c i k
run_reads c (x ∷ xs) (suc n) i s r h e k =
    run_reads (after_step c x) xs n i s r (omega arith) e (still_inside c x i k)
    ∙ ap (λ o. found (latest o i (take n xs) (take n (answers_of (after_step c x) xs)))) (step_leaves c x i)

pub run_remembers : (c : Contents) (ss : List Step) → Remembers c ss (answers_of c ss) (after_of c ss)
run_remembers c ss = record {
  low = run_low c ss;
  high = run_high c ss;
  elements = run_elements c ss;
  reads = run_reads c ss;
}

-- at the end of the list
pub answers_all : (m c : Contents) (rs : List Reading) (xs : List Step) (k : ℕ) → length xs ≤ k → rs ++ answers_of m (drop k xs) ≡ answers_of c xs → rs ≡ answers_of c xs
answers_all m c rs xs k h e = sym (append-nil rs) ∙ sym (ap (λ q. rs ++ q) (at_drop_all (answers_of m) xs k h)) ∙ e

pub after_all : (m c : Contents) (xs : List Step) (k : ℕ) → length xs ≤ k → after_of m (drop k xs) ≡ after_of c xs → m ≡ after_of c xs
after_all m c xs k h e = sym (at_drop_all (after_of m) xs k h) ∙ e

pub remembers_as : (c m : Contents) (ss : List Step) (rs : List Reading) → rs ≡ answers_of c ss → m ≡ after_of c ss → Remembers c ss rs m
remembers_as c m ss rs p q = subst₂ (λ x y. Remembers c ss x y) (sym p) (sym q) (run_remembers c ss)
