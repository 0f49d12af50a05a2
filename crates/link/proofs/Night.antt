-- The night can happen, and what comes of it: each event is computed.
use Rattle.std.proofs.Common.{◌≡◌, ℕ, Bool, true, false, cond, eqb, ◌↔◌, List, drop, None, codes, sym, refl, ap, ◌∙◌, subst, arith}
use lib.Utf8.{encode}
use Rattle.std.specs.Fmt.{digits}
use Rattle.std.specs.Str.{chars}
use Rattle.std.proofs.lemmas.Bool.{eqb-true, eqb-false, ne_eqb}
use Rattle.store.specs.Contents.{Sound, ValidIn, inside}
use Rattle.mount_box.specs.Handling.{handled}
use Rattle.link.specs.Calls.{Event}
use Rattle.link.specs.Runs.{box_now, Happens, earlier, by_opening, by_polling, by_handling}
use Rattle.link.specs.Witness.{pointed, first_contents, start, packet_0, packet_1, packet_2, packet_3, carried_out, repeated, answered, given_up, answered_later, overtaken, withdrawn, night, Witnessed}
use Rattle.link.proofs.Marks.{stays, marked}

-- what the store means at first is sound
first_bounded : (i : ℕ) → inside first_contents i ≡ false → first_contents.element i ≡ None
first_bounded i h = rw (other 100 refl, other 101 refl, other 102 refl)
  where
    other : (k : ℕ) → inside first_contents k ≡ true → eqb i k ≡ false
    other k t = ne_eqb i k (λ e.
        let w : true ≡ false = sym t ∙ ap (inside first_contents) (sym e) ∙ h in
        cc)

first_valid : (i : ℕ) → ValidIn (first_contents.element i)
unfolding chars encode digits
first_valid i = go (eqb i 100) (eqb i 101) (eqb i 102)
  where
    go : (a b c : Bool) → ValidIn (cond a (first_contents.element 100) (cond b (first_contents.element 101) (cond c (first_contents.element 102) None)))
    go true b c = refl
    go false true c = refl
    go false false true = refl
    go false false false = tt

first_sound : Sound first_contents
first_sound = record { ordered = omega arith; narrow = omega arith; bounded = first_bounded; valid = first_valid }

module _ (s : Sound first_contents) where
  -- the mark of a packet that arrives at the box
  mark : (h : List Event) (p : List ℕ) → (stays (box_now (start s) h 1) 0 p ≡ true) ↔ ((handled (box_now (start s) h 1) 0 p).after.contents ≡ (box_now (start s) h 1).contents)
  mark h p = marked (box_now (start s) h 1) 0 p

  carried_happens : Happens (start s) carried_out
  unfolding chars encode digits
  carried_happens = (
    (((tt, refl, tt), ((omega arith, (omega arith, (omega arith, tt))), refl), tt), refl, tt),
    (refl, mark (drop 1 carried_out) packet_0),
    earlier (by_opening (omega arith)),
  )

  repeated_happens : Happens (start s) repeated
  unfolding chars encode digits
  repeated_happens = (carried_happens, (refl, mark carried_out packet_0), earlier (earlier (by_opening (omega arith))))

  answered_happens : Happens (start s) answered
  unfolding chars encode digits
  answered_happens = ((repeated_happens, refl, by_handling), refl, earlier by_handling)

  given_up_happens : Happens (start s) given_up
  unfolding chars encode digits
  given_up_happens = ((((answered_happens, ((omega arith, (omega arith, (omega arith, tt))), refl), tt), refl, tt), refl, tt), refl, tt)

  later_happens : Happens (start s) answered_later
  unfolding chars encode digits
  later_happens = (
    ((given_up_happens, ((omega arith, (omega arith, (omega arith, tt))), refl), tt), (refl, mark (drop 2 answered_later) packet_2), by_opening (omega arith)),
    refl,
    by_handling,
  )

  overtaken_happens : Happens (start s) overtaken
  unfolding chars encode digits
  overtaken_happens = (later_happens, (refl, mark answered_later packet_1), earlier (earlier (earlier (earlier (by_polling (omega arith))))))

  withdrawn_happens : Happens (start s) withdrawn
  unfolding chars encode digits
  withdrawn_happens = (
    ((((overtaken_happens, ((omega arith, (omega arith, (omega arith, tt))), refl), tt), refl, tt), refl, tt), (refl, mark (drop 2 withdrawn) packet_3), earlier (earlier (by_opening (omega arith)))),
    refl,
    by_handling,
  )

  night_happens : Happens (start s) night
  unfolding chars encode digits
  night_happens = (withdrawn_happens, refl, tt)

  -- the element at each index after the later write
  element_there : (i : ℕ) → (box_now (start s) overtaken 1).contents.element i ≡ (pointed (codes "Polaris") 136636418 321350792).element i
  unfolding chars encode digits
  element_there i = name (eqb i 100) refl
    where
      same : ℕ → Type 0
      same j = (box_now (start s) overtaken 1).contents.element j ≡ (pointed (codes "Polaris") 136636418 321350792).element j

      flip : (k : ℕ) → eqb i k ≡ false → eqb k i ≡ false
      flip k a = ne_eqb k i (λ z. eqb-false i k a (sym z))

      declination : eqb i 100 ≡ false → eqb i 101 ≡ false → (v : Bool) → eqb i 102 ≡ v → same i
      declination a b true c = subst same (sym (eqb-true i 102 c)) refl
      declination a b false c = rw (a, b, c, flip 100 a, flip 101 b, flip 102 c) refl

      ascension : eqb i 100 ≡ false → (v : Bool) → eqb i 101 ≡ v → same i
      ascension a true b = subst same (sym (eqb-true i 101 b)) refl
      ascension a false b = declination a b (eqb i 102) refl

      name : (v : Bool) → eqb i 100 ≡ v → same i
      name true a = subst same (sym (eqb-true i 100 a)) refl
      name false a = ascension a (eqb i 101) refl

pub witnessed : Witnessed
unfolding chars encode digits
witnessed = record {
  sound = first_sound;
  happens = night_happens first_sound;
  settled = refl;
  none_waits = refl;
  counted = refl;
  sent_again = (refl, refl);
  carried_once = (refl, refl);
  repeat_changes_nothing = refl;
  overtaken_never = (refl, refl);
  refusal_changes_nothing = refl;
  last_name = refl;
  points_there = λ t. record { low = 100; high = 102; element = λ i. element_there first_sound i t };
  owner_wrote = (refl, refl);
}
