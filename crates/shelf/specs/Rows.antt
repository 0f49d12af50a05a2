-- Rows of elements that ascend: what a look-up finds, and what a write at a place leaves.
use Rattle.std.specs.Prelude.{◌≡◌, ℕ, zero, suc, ◌^◌, ◌<◌, ◌≤◌, true, false, ◌&&◌, List, [], ◌∷◌, map, length, set, Some, None, ◌==◌, ◌≢◌, nat_eq, nat_le, slice_index_or, slice_set, refl}
use Rattle.std.proofs.Common.{sym, ap, ap₂, ◌∙◌, arith}
use Rattle.std.proofs.Math.Path.{fun_ext}
use Rattle.std.proofs.Math.Logic.{∥∥₁_elim}
use Rattle.std.specs.Map.{update}
use Rattle.std.proofs.lemmas.List.{length-set, length-map, get_or-map, map-set}
use Rattle.std.proofs.lemmas.Bool.{and_parts, leb-true, ne_eqb, cond-false}
use Rattle.std.proofs.lemmas.Bool.Decides.{nat_tests}
use Rattle.store.specs.Contents.{Typed, ValidIn, Sound, free, put}
use Rattle.store.specs.Houses.{valid_more}
use Rattle.shelf.specs.Entries.{Entry, entry_of, lookup, ascending, counted, shelved, shelf_of}
use Rattle.shelf.specs.Places.{Place}
use Rattle.shelf.specs.declared.slot.Slot.{Slot}
use Rattle.shelf.specs.Sets.{valid_prop}

pub record First (low high : ℕ) (e : Entry) (es : List Entry) : Type 0 where
  pub least : low ≤ e.index
  pub most : e.index ≤ high
  pub rest : ascending (suc e.index) high es ≡ true

pub first : (low high : ℕ) (e : Entry) (es : List Entry) → ascending low high (e ∷ es) ≡ true → First low high e es
first low high e es h =
    let p = and_parts (nat_le low e.index) _ h in
    let q = and_parts (nat_le e.index high) _ p.1 in
    record { least = leb-true low e.index p.0; most = leb-true e.index high q.0; rest = q.1 }

passed : (e : Entry) (es : List Entry) (i : ℕ) → (i ≢ e.index) → lookup (e ∷ es) i ≡ lookup es i
passed e es i h = cond-false _ _ _ (ne_eqb i e.index h)

further : (low high x i : ℕ) → low ≤ x → (nat_le low i && nat_le i high) ≡ false → (nat_le (suc x) i && nat_le i high) ≡ false
further low high x i h o = grind (arith, nat_tests)

another : (low high x i : ℕ) → low ≤ x → x ≤ high → (nat_le low i && nat_le i high) ≡ false → i ≢ x
another low high x i h k o e = grind (arith, nat_tests)

outside : (low high : ℕ) (es : List Entry) → ascending low high es ≡ true → (i : ℕ) → (nat_le low i && nat_le i high) ≡ false → lookup es i ≡ None
outside low high [] a i o = refl
outside low high (e ∷ es) a i o =
    let f = first low high e es a in
    passed e es i (another low high e.index i f.least f.most o) ∙ outside (suc e.index) high es f.rest i (further low high e.index i f.least o)

pub at_least : (low high : ℕ) (es : List Entry) → ascending low high es ≡ true → (k : ℕ) (d : Entry) → k < length es → low ≤ (slice_index_or es k d).index
at_least low high [] a k d h = absurd (omega arith)
at_least low high (e ∷ es) a zero d h = (first low high e es a).least
at_least low high (e ∷ es) a (suc k) d h =
    let f = first low high e es a in
    let r : suc e.index ≤ (slice_index_or es k d).index = at_least (suc e.index) high es f.rest k d (omega arith) in
    omega (arith, f.least)

-- a write that keeps the index keeps the order
ascending_set : (low high : ℕ) (es : List Entry) (k : ℕ) (s : Entry) → ((d : Entry) → (slice_index_or es k d).index ≡ s.index) → ascending low high (slice_set es k s) ≡ ascending low high es
ascending_set low high [] k s p = refl
ascending_set low high (e ∷ es) zero s p = ap (λ x. nat_le low x && (nat_le x high && ascending (suc x) high es)) (sym (p e))
ascending_set low high (e ∷ es) (suc k) s p = ap (λ b. nat_le low e.index && (nat_le e.index high && b)) (ascending_set (suc e.index) high es k s p)

shelved_set : (low high : ℕ) (es : List Entry) (k : ℕ) (s : Entry) → ((d : Entry) → (slice_index_or es k d).index ≡ s.index) → shelved low high (slice_set es k s) ≡ shelved low high es
shelved_set low high es k s p =
    ap₂ (λ n b. nat_le low high && ((nat_le 1 n && nat_le n 256) && b)) (length-set es k s) (ascending_set low high es k s p)

lookup_set : (low high : ℕ) (es : List Entry) (k : ℕ) (s : Entry) → ascending low high es ≡ true → k < length es → ((d : Entry) → (slice_index_or es k d).index ≡ s.index) → (j : ℕ) → lookup (slice_set es k s) j ≡ update nat_eq (lookup es) s.index (Some s.element) j
lookup_set low high [] k s a h p j = absurd (omega arith)
lookup_set low high (e ∷ es) zero s a h p j = let q : e.index ≡ s.index = p e in grind (arith, nat_tests)
lookup_set low high (e ∷ es) (suc k) s a h p j =
    let f = first low high e es a in
    let less : e.index < s.index = omega (arith, at_least (suc e.index) high es f.rest k e (omega arith), p e) in
    let rest = lookup_set (suc e.index) high es k s f.rest (omega arith) p j in
    grind (arith, nat_tests)

-- what the rule of a shelf says
pub record Rule (low high : ℕ) (es : List Entry) : Type 0 where
  pub ordered : low ≤ high
  pub ascends : ascending low high es ≡ true

pub rule : (low high : ℕ) (es : List Entry) → shelved low high es ≡ true → Rule low high es
rule low high es h =
    let p = and_parts (nat_le low high) _ h in
    record { ordered = leb-true low high p.0; ascends = (and_parts (counted es) _ p.1).1 }

pub record Kept (low high : ℕ) (xs ys : List Slot) (i : ℕ) (t : Typed) : Type 0 where
  pub rule : shelved low high (map entry_of ys) ≡ true
  pub means : shelf_of low high (map entry_of ys) ≡ put (shelf_of low high (map entry_of xs)) i t

entry_at : (xs : List Slot) (k i : ℕ) → Place xs i k → (d : Entry) → (slice_index_or (map entry_of xs) k d).index ≡ i
entry_at [] k i p d = absurd (omega (arith, p.within))
entry_at (x ∷ xs) k i p d = ap (λ e. e.index) (get_or-map entry_of (x ∷ xs) k x d p.within) ∙ p.index x

put_row : (low high : ℕ) (es : List Entry) (k i : ℕ) (t : Typed) → shelved low high es ≡ true → k < length es → ((d : Entry) → (slice_index_or es k d).index ≡ i) → shelf_of low high (slice_set es k (record { index = i; element = free t })) ≡ put (shelf_of low high es) i t
put_row low high es k i t a h p =
    λ s. record { low = low; high = high; element = fun_ext (lookup_set low high es k (record { index = i; element = free t }) (rule low high es a).ascends h p) s }

-- s is written at the place of its index
pub row_written : (low high : ℕ) (xs : List Slot) (k i : ℕ) (s : Slot) (t : Typed) → shelved low high (map entry_of xs) ≡ true → Place xs i k → entry_of s ≡ record { index = i; element = free t } → Kept low high xs (slice_set xs k s) i t
row_written low high xs k i s t a p e =
    let es = map entry_of xs in
    let z : Entry = record { index = i; element = free t } in
    let m : map entry_of (slice_set xs k s) ≡ set es k z = map-set entry_of xs k s ∙ ap (set es k) e in
    record {
      rule = ap (shelved low high) m ∙ shelved_set low high es k z (entry_at xs k i p) ∙ a;
      means = ap (shelf_of low high) m ∙ put_row low high es k i t a (omega (arith, p.within, length-map xs entry_of)) (entry_at xs k i p);
    }

slot_valid : (s : Slot) → ValidIn (Some (entry_of s).element)
slot_valid s = ∥∥₁_elim s.valid (valid_prop _ _) (λ v. v)

row_valid : (xs : List Slot) (i : ℕ) → ValidIn (lookup (map entry_of xs) i)
row_valid [] i = tt
row_valid (x ∷ xs) i = valid_more (i == x.index) (entry_of x).element (lookup (map entry_of xs) i) (slot_valid x) (row_valid xs i)

pub row_sound : (low high : ℕ) (xs : List Slot) → high < 2 ^ 16 → shelved low high (map entry_of xs) ≡ true → Sound (shelf_of low high (map entry_of xs))
row_sound low high xs n h =
    let r = rule low high (map entry_of xs) h in
    record { ordered = r.ordered; narrow = n; bounded = outside low high (map entry_of xs) r.ascends; valid = row_valid xs }
