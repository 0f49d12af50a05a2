-- Rows of slots whose indices ascend: how that is told, and how an index is found.
use Rattle.std.proofs.Common.{◌≡◌, ℕ, zero, suc, ◌+◌, ◌<◌, ◌≤◌, ◌≢◌, Bool, true, false, leb, ltb, eqb, List, [], ◌∷◌, map, length, get_or, Some, None, Ok, Err, Result, MatchOption, sym, refl, ap, ◌∙◌, add-one, inl, inr, ⊎_elim, arith}
use Rattle.std.specs.List.{AllWithin, HoldsAt, IsAllAdjacentAnswer}
use Rattle.std.specs.List.Sorted.{IsSearchInRange, IsBinarySearchResult, IsNonDecreasingBy}
use Rattle.std.specs.Ordering.{nat_cmp, ordering_index}
use Rattle.std.specs.Result.{result_ok}
use Rattle.std.proofs.Math.Nat.{eq-or-lt_of_le}
use Rattle.std.proofs.lemmas.Cmp.{ranked}
use Rattle.std.proofs.lemmas.Bool.{cases_Bool, cond-true, cond-false, le-leb, leb-true, ltb-true, ltb-false, cases_lt, eq-eqb, ne_eqb, and_parts, false≢true}
use Rattle.std.proofs.lemmas.Bool.Decides.{nat_tests}
use Rattle.protocol.specs.Words.{kind_number}
use Rattle.protocol.specs.declared.kind.Kind.{Kind}
use Rattle.store.specs.Contents.{Element, barred}
use Rattle.shelf.specs.Entries.{entry_of, element_of, lies, lookup, ascending}
use Rattle.shelf.specs.Places.{Place}
use Rattle.shelf.specs.Rows.{first}
use Rattle.shelf.specs.declared.slot.Slot.{Slot}

-- each below the next
abbrev pub rises : Slot → Slot → Bool
rises s t = ltb s.index t.index

record Bounded (low high : ℕ) (s : Slot) : Type 0 where
  pub least : low ≤ s.index
  pub most : s.index ≤ high

bounded : (low high : ℕ) (s : Slot) → lies low high s ≡ true → Bounded low high s
bounded low high s h =
    let p = and_parts (leb low s.index) (leb s.index high) h in
    record { least = leb-true low s.index p.0; most = leb-true s.index high p.1 }

-- what is known of a row that ascends
within : (low high : ℕ) (xs : List Slot) → ascending low high (map entry_of xs) ≡ true → (k : ℕ) (d : Slot) → k < length xs → Bounded low high (get_or xs k d)
within low high [] a k d h = absurd (omega arith)
within low high (x ∷ xs) a zero d h = let f = first low high (entry_of x) (map entry_of xs) a in record { least = f.least; most = f.most }
within low high (x ∷ xs) a (suc k) d h =
    let f = first low high (entry_of x) (map entry_of xs) a in
    let w = within (suc x.index) high xs f.rest k d (omega arith) in
    record { least = omega (arith, f.least, w.least); most = w.most }

climbs : (low high : ℕ) (xs : List Slot) → ascending low high (map entry_of xs) ≡ true → (j k : ℕ) (d : Slot) → j < k → k < length xs → (get_or xs j d).index < (get_or xs k d).index
climbs low high [] a j k d l h = absurd (omega arith)
climbs low high (x ∷ xs) a j zero d l h = absurd (omega arith)
climbs low high (x ∷ xs) a zero (suc k) d l h =
    let f = first low high (entry_of x) (map entry_of xs) a in
    let w = within (suc x.index) high xs f.rest k d (omega arith) in
    omega (arith, w.least)
climbs low high (x ∷ xs) a (suc j) (suc k) d l h = climbs (suc x.index) high xs (first low high (entry_of x) (map entry_of xs) a).rest j k d (omega arith) (omega arith)

-- where each is below the next, the first is below all
above : (x : Slot) (xs : List Slot) → ((k : ℕ) (d : Slot) → suc k < length (x ∷ xs) → (get_or (x ∷ xs) k d).index < (get_or (x ∷ xs) (suc k) d).index) → (k : ℕ) (d : Slot) → k < length xs → x.index < (get_or xs k d).index
above x xs n zero d h = n zero d (omega arith)
above x xs n (suc k) d h =
    let p = above x xs n k d (omega arith) in
    let q = n (suc k) d (omega arith) in
    omega (arith, p, q)

ascend : (low high : ℕ) (xs : List Slot) → ((k : ℕ) (d : Slot) → k < length xs → Bounded low high (get_or xs k d)) → ((k : ℕ) (d : Slot) → suc k < length xs → (get_or xs k d).index < (get_or xs (suc k) d).index) → ascending low high (map entry_of xs) ≡ true
ascend low high [] w n = refl
ascend low high (x ∷ xs) w n =
    let b = w zero x (omega arith) in
    let rest = ascend (suc x.index) high xs (λ k d h. record { least = above x xs n k d h; most = (w (suc k) d (omega arith)).most }) (λ k d h. n (suc k) d (omega arith)) in
    let p : leb low x.index ≡ true = le-leb _ _ b.least in
    let q : leb x.index high ≡ true = le-leb _ _ b.most in
    rw (p, q) rest

some_slot : (xs : List Slot) → 0 < length xs → Slot
some_slot [] h = absurd (omega arith)
some_slot (x ∷ xs) h = x

-- all lie between the limits, and each is below the next or one is not
pub ascends_as : (low high : ℕ) (xs : List Slot) (r : Bool) → AllWithin (λ s. lies low high s ≡ true) xs 0 (length xs) → IsAllAdjacentAnswer (λ s t b. b ≡ rises s t) xs r → r ≡ ascending low high (map entry_of xs)
ascends_as low high xs true w n =
    sym (ascend low high xs (λ k d h. bounded low high (get_or xs k d) (w k d (omega arith) h)) (λ k d h. ltb-true _ _ (sym (rw add-one at (n k d (omega arith))))))
ascends_as low high xs false w n =
    elim (cases_Bool (ascending low high (map entry_of xs))) [
      | inl a ↦
          let d = some_slot xs (omega (arith, n.1)) in
          let up = climbs low high xs a n.0 (n.0 + 1) d (omega arith) n.1 in
          let down : false ≡ rises (get_or xs n.0 d) (get_or xs (n.0 + 1) d) = n.2 d in
          absurd (omega (arith, ltb-false _ _ (sym down), up))
      | inr a ↦ sym a
    ]

-- one does not
pub ascends_not : (low high : ℕ) (xs : List Slot) → (k : ℕ) × (k < length xs) × HoldsAt (λ s. lies low high s ≡ false) xs k → false ≡ ascending low high (map entry_of xs)
ascends_not low high xs p =
    elim (cases_Bool (ascending low high (map entry_of xs))) [
      | inl a ↦
          let d = some_slot xs (omega (arith, p.1)) in
          let b = within low high xs a p.0 d p.1 in
          let s : leb low (get_or xs p.0 d).index ≡ true = le-leb _ _ b.least in
          let t : leb (get_or xs p.0 d).index high ≡ true = le-leb _ _ b.most in
          let both : lies low high (get_or xs p.0 d) ≡ true = rw (s, t) in
          absurd (false≢true (sym (p.2 d) ∙ both))
      | inr a ↦ sym a
    ]

-- the look-up of an index that is there, and of one that is not
there : (low high : ℕ) (xs : List Slot) → ascending low high (map entry_of xs) ≡ true → (k i : ℕ) (d : Slot) → k < length xs → (get_or xs k d).index ≡ i → lookup (map entry_of xs) i ≡ Some (element_of (get_or xs k d))
there low high [] a k i d h e = absurd (omega arith)
there low high (x ∷ xs) a zero i d h e = cond-true _ _ _ (eq-eqb i x.index (sym e))
there low high (x ∷ xs) a (suc k) i d h e =
    let l = climbs low high (x ∷ xs) a zero (suc k) d (omega arith) h in
    cond-false _ _ _ (ne_eqb i x.index (λ s. omega (arith, l, e)))
    ∙ there (suc x.index) high xs (first low high (entry_of x) (map entry_of xs) a).rest k i d (omega arith) e

nowhere : (xs : List Slot) (i : ℕ) → ((k : ℕ) (d : Slot) → k < length xs → (get_or xs k d).index ≢ i) → lookup (map entry_of xs) i ≡ None
nowhere [] i n = refl
nowhere (x ∷ xs) i n = cond-false _ _ _ (ne_eqb i x.index (λ e. n zero x (omega arith) (sym e))) ∙ nowhere xs i (λ k d h. n (suc k) d (omega arith))

module _ (low high : ℕ) (xs : List Slot) (a : ascending low high (map entry_of xs) ≡ true) (i : ℕ) where
  -- the comparisons with the index rise along the row
  comparisons_rise : IsNonDecreasingBy (λ (s : Slot). ordering_index (nat_cmp s.index i)) xs
  comparisons_rise j k d l h =
      let up : (get_or xs j d).index ≤ (get_or xs k d).index = ⊎_elim (λ (e : j ≡ k). let s : (get_or xs j d).index ≡ (get_or xs k d).index = ap (λ n. (get_or xs n d).index) e in omega (arith, s)) (λ (b : j < k). let s = climbs low high xs a j k d b h in omega (arith, s)) (eq-or-lt_of_le l) in
      grind (arith, nat_tests)

  -- what a binary search answers
  pub searched : (r : Result ℕ ℕ) → IsSearchInRange r (length xs) → IsBinarySearchResult (λ (s : Slot). nat_cmp s.index i) xs r → MatchOption (result_ok r) (lookup (map entry_of xs) i ≡ None) (λ k. Place xs i k)
  searched (Ok k) h equal =
      let at : (d : Slot) → (get_or xs k d).index ≡ i = λ d. ranked _ i _ (sym (equal d)) in
      record { within = h; index = at; held = λ d. there low high xs a k i d h (at d) }
  searched (Err k) h parted = nowhere xs i (λ j d l e.
      let parts = parted comparisons_rise in
      ⊎_elim
      (λ (b : j < k). let less : (get_or xs j d).index < i = ranked _ i _ (sym (parts.0 j d (omega arith) b)) in omega (arith, less, e))
      (λ (b : k ≤ j). let more : i < (get_or xs j d).index = ranked _ i _ (sym (parts.1 j d b l)) in omega (arith, more, e))
      (cases_lt j k))

-- an element that is not fixed takes a value of its type
pub not_barred : (e : Element) (k : Kind) → e.fixed ≡ false → e.kind ≡ k → barred e k ≡ false
not_barred e k f s = let t : eqb (kind_number e.kind) (kind_number k) ≡ true = eq-eqb _ _ (ap kind_number s) in rw (f, t)
