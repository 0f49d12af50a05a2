-- The record that a request stands by.
--     first_before, first_at, first_set   the first of a list that passes a test
--     stands_known, stands_new            by a search for the sender's record
--     DueFor, due_for                    the record that a request is due for
--     KnownBy, known_by                  the record whose number comes again
use Rattle.std.proofs.Common.{◌≡◌, ℕ, ◌<◌, ◌≤◌, Bool, true, false, cond, eqb, ltb, ◌⊎◌, List, length, get_or, set, position, Some, None, Ok, Err, Option, Result, sym, refl, ap, ap₂, ◌∙◌, subst, inl, inr, arith}
use Rattle.std.specs.Option.{option_map, ok_or}
use Rattle.std.proofs.lemmas.List.{get_or-set_same, get_or-set_other, length-set}
use Rattle.std.proofs.lemmas.List.Sums.{fails_before_first, passes_at_first, position_or_len_is}
use Rattle.std.proofs.lemmas.Bool.{ltb-true, ltb-false, lt-ltb, le-ltb, eqb-true, eq-eqb, cond-true, cond-false}
use Rattle.protocol.specs.declared.refusal.Refusal.{Refusal}
use Rattle.protocol.specs.declared.refusal.Refusal.TheVariants.{Unknown, OldNumber}
use Rattle.slab_rows.specs.Searches.{first_by}
use Rattle.slab_rows.proofs.Firsts.{first_position, position_first, first_some, first_none}
use Rattle.mount_box.specs.declared.senders.SenderRecord.{SenderRecord}
use Rattle.mount_box.specs.Senders.{blank, noted, is_of, is_empty, newest_of, by_number, Standing, repeated, due, standing}

module _ {X : Type 0} (p : X → Bool) (xs : List X) (d : X) where
  -- none before it passes
  first_before : (j : ℕ) → j < first_by p xs → p (get_or xs j d) ≡ false
  first_before j h = let e = first_position p xs in fails_before_first p xs j d (omega arith)

  -- it passes itself
  first_at : first_by p xs < length xs → p (get_or xs (first_by p xs) d) ≡ true
  first_at h = let e = first_position p xs in subst (λ n. p (get_or xs n d) ≡ true) (sym e) (passes_at_first p xs d (omega arith))

  -- one that passes, put where none before it does, is the first
  first_set : (k : ℕ) (x : X) → k < length xs → p x ≡ true → ((j : ℕ) → j < k → p (get_or xs j d) ≡ false) → first_by p (set xs k x) ≡ k
  first_set k x h t b =
      first_position p (set xs k x)
      ∙ position_or_len_is p (set xs k x) k d (omega (arith, length-set xs k x))
      (λ j l. ap p (get_or-set_other xs k j x d (omega arith)) ∙ b j l)
      (λ l. ap p (get_or-set_same xs k x d h) ∙ t)

module _ (records : List (Option SenderRecord)) (sender number : ℕ) where
  -- it is the sender's or an empty one, and none before it is the sender's
  pub record DueFor (k : ℕ) : Type 0 where
    pub inside : k < 16
    pub was : (is_of sender (get_or records k blank) ≡ true) ⊎ (is_empty (get_or records k blank) ≡ true)
    pub before : (j : ℕ) → j < k → is_of sender (get_or records j blank) ≡ false

  -- it is the sender's, and has the number
  pub record KnownBy (k : ℕ) : Type 0 where
    pub inside : k < 16
    pub own : is_of sender (get_or records k blank) ≡ true
    pub newest : newest_of (get_or records k blank) ≡ number

  abbrev mine : ℕ
  mine = first_by (is_of sender) records

  abbrev free : ℕ
  free = first_by is_empty records

  abbrev by_tests : Bool → Bool → Bool → Bool → Result Standing Refusal
  by_tests a b c d = cond a (cond b (Ok (repeated mine)) (cond c (Err OldNumber) (Ok (due mine)))) (cond d (Ok (due free)) (Err Unknown))

  module _ (all : length records ≡ 16) where
    -- of a known sender its newest number decides
    pub stands_known : (k newest : ℕ) → Some k ≡ position (is_of sender) records → newest_of (get_or records k blank) ≡ newest → by_number k newest number ≡ standing records sender number
    stands_known k newest e g =
        let f = first_some (is_of sender) records k e in
        let t = lt-ltb mine 16 (omega arith) in
        sym (cond-true _ _ _ t ∙ ap₂ (λ n q. by_number n q number) (sym f.0) (ap (λ n. newest_of (get_or records n blank)) (sym f.0) ∙ g))

    -- a new one gets the lowest empty record
    pub stands_new : None ≡ position (is_of sender) records → ok_or (option_map due (position is_empty records)) Unknown ≡ standing records sender number
    stands_new e =
        let f = first_none (is_of sender) records e in
        let t = le-ltb mine 16 (omega arith) in
        let at : position is_empty records ≡ cond (ltb free 16) (Some free) None = subst (λ n. position is_empty records ≡ cond (ltb free n) (Some free) None) all (position_first is_empty records) in
        ap (λ o. ok_or (option_map due o) Unknown) at ∙ told (ltb free 16) ∙ sym (cond-false _ _ _ t)
      where
        told : (b : Bool) → ok_or (option_map due (cond b (Some free) None)) Unknown ≡ cond b (Ok (due free)) (Err Unknown)
        told true = refl
        told false = refl

    due_mine : ltb mine 16 ≡ true → DueFor mine
    due_mine t =
        let h : mine < 16 = ltb-true mine 16 t in
        record { inside = h; was = inl (first_at (is_of sender) records blank (omega arith)); before = first_before (is_of sender) records blank }

    due_free : ltb mine 16 ≡ false → ltb free 16 ≡ true → DueFor free
    due_free n t =
        let h : free < 16 = ltb-true free 16 t in
        let m : 16 ≤ mine = ltb-false mine 16 n in
        record {
          inside = h;
          was = inr (first_at is_empty records blank (omega arith));
          before = λ j l. first_before (is_of sender) records blank j (omega arith);
        }

    pub due_for : (k : ℕ) → standing records sender number ≡ Ok (due k) → DueFor k
    due_for k e = split (ltb mine 16) (eqb number (newest_of (get_or records mine blank))) (ltb number (newest_of (get_or records mine blank))) (ltb free 16) refl refl e
      where
        split : (a b c d : Bool) → ltb mine 16 ≡ a → ltb free 16 ≡ d → by_tests a b c d ≡ Ok (due k) → DueFor k
        split true true c d s t q = absurd cc
        split true false true d s t q = absurd cc
        split true false false d s t q = let r : mine ≡ k = cc in subst DueFor r (due_mine s)
        split false b c true s t q = let r : free ≡ k = cc in subst DueFor r (due_free s t)
        split false b c false s t q = absurd cc

    pub known_by : (k : ℕ) → standing records sender number ≡ Ok (repeated k) → KnownBy k
    known_by k e = split (ltb mine 16) (eqb number (newest_of (get_or records mine blank))) (ltb number (newest_of (get_or records mine blank))) (ltb free 16) refl refl e
      where
        split : (a b c d : Bool) → ltb mine 16 ≡ a → eqb number (newest_of (get_or records mine blank)) ≡ b → by_tests a b c d ≡ Ok (repeated k) → KnownBy k
        split true true c d s t q =
            let r : mine ≡ k = cc in
            let h : mine < 16 = ltb-true mine 16 s in
            subst KnownBy r (record { inside = h; own = first_at (is_of sender) records blank (omega arith); newest = sym (eqb-true number (newest_of (get_or records mine blank)) t) })
        split true false true d s t q = absurd cc
        split true false false d s t q = absurd cc
        split false b c true s t q = absurd cc
        split false b c false s t q = absurd cc

    -- once it is noted, the number stands as a repeat
    pub noted_again : (k n : ℕ) → DueFor k → standing (set records k (noted sender number n)) sender number ≡ Ok (repeated k)
    noted_again k n d =
        let h : k < 16 = d.inside in
        let own : is_of sender (noted sender number n) ≡ true = eq-eqb sender sender refl in
        let here : first_by (is_of sender) (set records k (noted sender number n)) ≡ k = first_set (is_of sender) records blank k (noted sender number n) (omega arith) own d.before in
        let at : get_or (set records k (noted sender number n)) k blank ≡ noted sender number n = get_or-set_same records k (noted sender number n) blank (omega arith) in
        let in' = lt-ltb k 16 h in
        let same = eq-eqb number number refl in
        simp (here, in', at, same)
