-- The four ways that a write can go, and what they keep.
--     Wrote c i t w, wrote    a write of t at i gave w: outside, nothing there, barred, or done
--     write_low, write_high   the limits stay
--     write_leaves            what stands at each index afterwards, by the code alone
--     put_sound, write_sound  a write of a value leaves sound contents
--     kind_same               types with one number are one
--     write_kinds             the types stay
use Rattle.std.proofs.Common.{◌≡◌, ℕ, Bool, true, false, cond, not, ◌&&◌, eqb, Some, None, Option, sym, refl, ap, ◌∙◌, inl, inr, arith}
use Rattle.std.proofs.lemmas.Bool.{cases_Bool, cond-true, cond-false, eqb-true, not-false, or_parts}
use Rattle.std.proofs.lemmas.Bool.Decides.{nat_tests}
use Rattle.std.specs.Option.{option_map}
use Rattle.protocol.specs.Words.{kind_number}
use Rattle.protocol.specs.declared.kind.Kind.{Kind}
use Rattle.protocol.specs.declared.kind.Kind.TheVariants as K
use Rattle.value.specs.Values.{Valid}
use Rattle.store.specs.Contents.{Contents, Element, Typed, ValidIn, Sound, Writing, inside, kind_at, free, kept, put, barred, write_at, write_of}

pub data Wrote (c : Contents) (i : ℕ) (t : Typed) : Writing → Type 0 where
  outside : inside c i ≡ false → Wrote c i t (kept 3 c)
  nothing : inside c i ≡ true → c.element i ≡ None → Wrote c i t (kept 1 c)
  shut : (e : Element) → inside c i ≡ true → c.element i ≡ Some e → barred e t.kind ≡ true → Wrote c i t (kept 2 c)
  done : (e : Element) → inside c i ≡ true → c.element i ≡ Some e → barred e t.kind ≡ false → Wrote c i t (record { code = 0; after = put c i t })

wrote_some : (c : Contents) (i : ℕ) (t : Typed) (e : Element) (b : Bool) → inside c i ≡ true → c.element i ≡ Some e → barred e t.kind ≡ b → Wrote c i t (cond b (kept 2 c) (record { code = 0; after = put c i t }))
wrote_some c i t e true h s p = shut e h s p
wrote_some c i t e false h s p = done e h s p

wrote_at : (c : Contents) (i : ℕ) (t : Typed) (b : Bool) (o : Option Element) → inside c i ≡ b → c.element i ≡ o → Wrote c i t (cond b (write_at o c i t) (kept 3 c))
wrote_at c i t false o h s = outside h
wrote_at c i t true None h s = nothing h s
wrote_at c i t true (Some e) h s = wrote_some c i t e (barred e t.kind) h s refl

pub wrote : (c : Contents) (i : ℕ) (t : Typed) → Wrote c i t (write_of c i t)
wrote c i t = wrote_at c i t (inside c i) (c.element i) refl refl

low_stays : (c : Contents) (i : ℕ) (t : Typed) (w : Writing) → Wrote c i t w → w.after.low ≡ c.low
low_stays c i t w (outside h) = refl
low_stays c i t w (nothing h s) = refl
low_stays c i t w (shut e h s p) = refl
low_stays c i t w (done e h s p) = refl

high_stays : (c : Contents) (i : ℕ) (t : Typed) (w : Writing) → Wrote c i t w → w.after.high ≡ c.high
high_stays c i t w (outside h) = refl
high_stays c i t w (nothing h s) = refl
high_stays c i t w (shut e h s p) = refl
high_stays c i t w (done e h s p) = refl

pub write_low : (c : Contents) (i : ℕ) (t : Typed) → (write_of c i t).after.low ≡ c.low
write_low c i t = low_stays c i t (write_of c i t) (wrote c i t)

pub write_high : (c : Contents) (i : ℕ) (t : Typed) → (write_of c i t).after.high ≡ c.high
write_high c i t = high_stays c i t (write_of c i t) (wrote c i t)

-- what a write with this code leaves at j
abbrev left : Contents → ℕ → Typed → ℕ → ℕ → Option Element
left c i t code j = cond (eqb j i && eqb code 0) (Some (free t)) (c.element j)

done_leaves : (c : Contents) (i : ℕ) (t : Typed) (j : ℕ) → (put c i t).element j ≡ left c i t 0 j
done_leaves c i t j = grind (arith, nat_tests)

kept_leaves : (c : Contents) (i : ℕ) (t : Typed) (j n : ℕ) → eqb n 0 ≡ false → c.element j ≡ left c i t n j
kept_leaves c i t j n h = grind (arith, nat_tests)

leaves : (c : Contents) (i : ℕ) (t : Typed) (j : ℕ) (w : Writing) → Wrote c i t w → w.after.element j ≡ left c i t w.code j
leaves c i t j w (outside h) = kept_leaves c i t j 3 refl
leaves c i t j w (nothing h s) = kept_leaves c i t j 1 refl
leaves c i t j w (shut e h s p) = kept_leaves c i t j 2 refl
leaves c i t j w (done e h s p) = done_leaves c i t j

pub write_leaves : (c : Contents) (i : ℕ) (t : Typed) (j : ℕ) → (write_of c i t).after.element j ≡ left c i t (write_of c i t).code j
write_leaves c i t j = leaves c i t j (write_of c i t) (wrote c i t)

put_bounded : (c : Contents) (i : ℕ) (t : Typed) (j : ℕ) → inside c i ≡ true → inside c j ≡ false → c.element j ≡ None → (put c i t).element j ≡ None
put_bounded c i t j h n s = grind (arith, nat_tests)

put_valid : (b : Bool) (t : Typed) (o : Option Element) → Valid t.kind t.datum → ValidIn o → ValidIn (cond b (Some (free t)) o)
put_valid true t o v w = v
put_valid false t o v w = w

pub put_sound : (c : Contents) (i : ℕ) (t : Typed) → Sound c → inside c i ≡ true → Valid t.kind t.datum → Sound (put c i t)
put_sound c i t ok h v = record {
  ordered = ok.ordered;
  narrow = ok.narrow;
  bounded = λ j n. put_bounded c i t j h n (ok.bounded j n);
  valid = λ j. put_valid (eqb i j) t (c.element j) v (ok.valid j);
}

sound_after : (c : Contents) (i : ℕ) (t : Typed) (w : Writing) → Sound c → Valid t.kind t.datum → Wrote c i t w → Sound w.after
sound_after c i t w ok v (outside h) = ok
sound_after c i t w ok v (nothing h s) = ok
sound_after c i t w ok v (shut e h s p) = ok
sound_after c i t w ok v (done e h s p) = put_sound c i t ok h v

pub write_sound : (c : Contents) (i : ℕ) (t : Typed) → Sound c → Valid t.kind t.datum → Sound (write_of c i t).after
write_sound c i t ok v = sound_after c i t (write_of c i t) ok v (wrote c i t)

-- the type with a number
abbrev kind_at_number : ℕ → Kind
kind_at_number n =
    cond (eqb n 0) K.Bo (cond (eqb n 1) K.In (cond (eqb n 2) K.Sh (cond (eqb n 3) K.USh
    (cond (eqb n 4) K.Lo (cond (eqb n 5) K.Si (cond (eqb n 6) K.Do (cond (eqb n 7) K.By K.St)))))))

back : (k : Kind) → kind_at_number (kind_number k) ≡ k
back K.Bo = refl
back K.In = refl
back K.Sh = refl
back K.USh = refl
back K.Lo = refl
back K.Si = refl
back K.Do = refl
back K.By = refl
back K.St = refl

pub kind_same : (k l : Kind) → kind_number k ≡ kind_number l → k ≡ l
kind_same k l e = sym (back k) ∙ ap kind_at_number e ∙ back l

-- an element takes only a value of its own type
pub same_kind : (e : Element) (k : Kind) → barred e k ≡ false → e.kind ≡ k
same_kind e k h =
    kind_same e.kind k (eqb-true (kind_number e.kind) (kind_number k) (not-false (eqb (kind_number e.kind) (kind_number k)) (or_parts e.fixed (not (eqb (kind_number e.kind) (kind_number k))) h).1))

put_kinds : (c : Contents) (i : ℕ) (t : Typed) (e : Element) (j : ℕ) → c.element i ≡ Some e → e.kind ≡ t.kind → kind_at (put c i t) j ≡ kind_at c j
put_kinds c i t e j s k =
    elim (cases_Bool (eqb i j)) [
      | inl h ↦
          ap (option_map (λ x. x.kind)) (cond-true _ _ _ h)
          ∙ ap Some (sym k)
          ∙ sym (ap (λ n. kind_at c n) (sym (eqb-true i j h)) ∙ ap (option_map (λ x. x.kind)) s)
      | inr h ↦ ap (option_map (λ x. x.kind)) (cond-false _ _ _ h)
    ]

kinds_stay : (c : Contents) (i : ℕ) (t : Typed) (w : Writing) → Wrote c i t w → (j : ℕ) → kind_at w.after j ≡ kind_at c j
kinds_stay c i t w (outside h) j = refl
kinds_stay c i t w (nothing h s) j = refl
kinds_stay c i t w (shut e h s p) j = refl
kinds_stay c i t w (done e h s p) j = put_kinds c i t e j s (same_kind e t.kind p)

pub write_kinds : (c : Contents) (i : ℕ) (t : Typed) (j : ℕ) → kind_at (write_of c i t).after j ≡ kind_at c j
write_kinds c i t j = kinds_stay c i t (write_of c i t) (wrote c i t) j
