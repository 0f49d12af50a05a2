-- A search for the first that passes.
--     first_position           `first_by` and the library's `position_or_len` are one
--     place_found              what a search gave is the place that `position` tells
--     first_some, first_none   what `position` tells of `first_by`
use Rattle.std.proofs.Common.{◌≡◌, ℕ, ◌<◌, ◌≤◌, Bool, true, false, cond, ltb, List, length, get_or, position, Some, None, Option, IfNone, IfSome, sym, refl, ap, ◌∙◌, arith}
use Rattle.std.specs.Option.{option_map}
use Rattle.std.specs.List.{position_or_len}
use Rattle.std.proofs.lemmas.Bool.{lt-ltb, le-ltb, ltb-true, ltb-false, cond-true, cond-false}
use Rattle.std.proofs.lemmas.List.Recursion.{is_position_or_len}
use Rattle.std.proofs.lemmas.List.Sums.{position_or_len_is}
use Rattle.slab_rows.specs.Searches.{first_by}

module _ {X : Type 0} (p : X → Bool) (xs : List X) where
  pub first_position : first_by p xs ≡ position_or_len p xs
  first_position = is_position_or_len (first_by p) p refl (λ x ys. ap (cond (p x) 0) (omega arith)) xs

  pub position_first : position p xs ≡ cond (ltb (first_by p xs) (length xs)) (Some (first_by p xs)) None
  position_first = ap (λ n. cond (ltb n (length xs)) (Some n) None) (sym first_position)

  pub first_some : (k : ℕ) → Some k ≡ position p xs → (k ≡ first_by p xs) × (k < length xs)
  first_some k e = split (ltb (first_by p xs) (length xs)) refl (e ∙ position_first)
    where
      split : (b : Bool) → ltb (first_by p xs) (length xs) ≡ b → Some k ≡ cond b (Some (first_by p xs)) None → (k ≡ first_by p xs) × (k < length xs)
      split true t q =
          let same : k ≡ first_by p xs = cc in
          let inside = ltb-true _ _ t in
          (same, omega arith)
      split false t q = absurd cc

  pub first_none : None ≡ position p xs → length xs ≤ first_by p xs
  first_none e = split (ltb (first_by p xs) (length xs)) refl (e ∙ position_first)
    where
      split : (b : Bool) → ltb (first_by p xs) (length xs) ≡ b → None ≡ cond b (Some (first_by p xs)) None → length xs ≤ first_by p xs
      split true t q = absurd cc
      split false t q = ltb-false _ _ t

  pub place_found : {A : Type 0} (f : A → ℕ) (d : X) (r : Option A) → IfNone r ((k : ℕ) → k < length xs → p (get_or xs k d) ≡ false)
      → IfSome r (λ a. (f a < length xs) × (p (get_or xs (f a) d) ≡ true) × ((k : ℕ) → k < f a → p (get_or xs k d) ≡ false)) → option_map f r ≡ position p xs
  place_found f d None n s =
      let e = position_or_len_is p xs (length xs) d (omega arith) n (λ h. absurd (omega arith)) in
      sym (cond-false _ _ _ (le-ltb (position_or_len p xs) (length xs) (omega arith)))
  place_found f d (Some a) n s =
      let e = position_or_len_is p xs (f a) d (omega arith) s.2 (λ h. s.1) in
      let t = lt-ltb (position_or_len p xs) (length xs) (omega arith) in
      sym (cond-true _ _ _ t ∙ ap Some e)
