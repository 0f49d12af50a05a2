-- Tests, lists and searches.
use Rattle.std.proofs.Common.{◌≡◌, ℕ, zero, suc, ◌<◌, ◌≤◌, Bool, true, false, cond, eqb, List, [], ◌∷◌, map, length, get_or, sym, refl, ap, ◌∙◌, inr, arith}
use Rattle.std.specs.Str.{bytes_eq}
use Rattle.std.proofs.lemmas.Slice.Eq.{bytes_eq-Decides}
use Rattle.std.proofs.lemmas.Bool.{eq-eqb, true≢false}
use Rattle.slab_rows.specs.Searches.{first_by}
use Rattle.link.specs.Calls.{Mem}

pub eqb_self : (n : ℕ) → eqb n n ≡ true
eqb_self n = eq-eqb n n refl

pub same_self : (xs : List ℕ) → bytes_eq xs xs ≡ true
same_self xs = (bytes_eq-Decides xs xs).1 refl

-- what stands in a list stands in it with one more in front
pub mem_cond : {A : Type 0} (x y : A) (l : List A) (v : Bool) → Mem x l → Mem x (cond v (y ∷ l) l)
mem_cond x y l true m = inr m
mem_cond x y l false m = m

-- the first that passes
module _ {X : Type 0} (p : X → Bool) where
  pub first_most : (xs : List X) → first_by p xs ≤ length xs
  first_most [] = omega arith
  first_most (x ∷ xs) = go (first_most xs) (p x)
    where
      go : first_by p xs ≤ length xs → (v : Bool) → cond v 0 (suc (first_by p xs)) ≤ suc (length xs)
      go ih true = omega arith
      go ih false = omega arith

  pub first_passes : (xs : List X) (d : X) → first_by p xs < length xs → p (get_or xs (first_by p xs) d) ≡ true
  first_passes [] d h = absurd (omega arith)
  first_passes (x ∷ xs) d h = go (first_passes xs d) (p x) refl h
    where
      go : (first_by p xs < length xs → p (get_or xs (first_by p xs) d) ≡ true) → (v : Bool) → p x ≡ v
          → cond v 0 (suc (first_by p xs)) < suc (length xs) → p (get_or (x ∷ xs) (cond v 0 (suc (first_by p xs))) d) ≡ true
      go ih true e h = e
      go ih false e h = ih (omega arith)

  -- one that passes stands nowhere before it
  pub first_until : (xs : List X) (d : X) (i : ℕ) → i < length xs → p (get_or xs i d) ≡ true → first_by p xs ≤ i
  first_until [] d i h e = absurd (omega arith)
  first_until (x ∷ xs) d i h e = go (first_until xs d) (p x) refl i h e
    where
      go : ((j : ℕ) → j < length xs → p (get_or xs j d) ≡ true → first_by p xs ≤ j) → (v : Bool) → p x ≡ v
          → (j : ℕ) → j < suc (length xs) → p (get_or (x ∷ xs) j d) ≡ true → cond v 0 (suc (first_by p xs)) ≤ j
      go ih true e j h t = omega arith
      go ih false e zero h t = absurd (true≢false (sym t ∙ e))
      go ih false e (suc j) h t = let z = ih j (omega arith) t in omega arith

-- a test of a part of each
pub first_map : {X Y : Type 0} (p : Y → Bool) (f : X → Y) (xs : List X) → first_by (λ x. p (f x)) xs ≡ first_by p (map f xs)
first_map p f [] = refl
first_map p f (x ∷ xs) = ap (λ n. cond (p (f x)) 0 (suc n)) (first_map p f xs)
