-- Two sound stores as one are sound, and a write to them is a write to the one whose range has the index.
use Rattle.std.specs.Prelude.{◌≡◌, ℕ, ◌^◌, ◌<◌, ◌≤◌, min, max, Bool, true, false, cond, Some, None, Option, refl}
use Rattle.std.proofs.Common.{sym, ap, ◌∙◌, arith}
use Rattle.std.proofs.Math.Path.{fun_ext}
use Rattle.std.proofs.lemmas.Bool.{cond-true, cond-false}
use Rattle.std.proofs.lemmas.Bool.Decides.{nat_tests}
use Rattle.store.specs.Contents.{Element, Contents, ValidIn, Sound, Typed, Writing, inside, kept, put, barred, write_at, write_of}
use Rattle.store.specs.Joining.{of_both, joined}
use Rattle.store.specs.Writings.{write_inside}

valid_either : (b : Bool) (o p : Option Element) → ValidIn o → ValidIn p → ValidIn (cond b o p)
valid_either true o p v w = v
valid_either false o p v w = w

lowest : (a b c d : ℕ) → a ≤ b → min a c ≤ max b d
lowest a b c d h = omega arith

highest : (a b n : ℕ) → a < n → b < n → max a b < n
highest a b n h k = omega arith

nothing_outside : (a b : Contents) → (i : ℕ) → inside (joined a b) i ≡ false → of_both a b i ≡ None
nothing_outside a b i h = grind (arith, nat_tests)

pub joined_sound : (a b : Contents) → Sound a → Sound b → Sound (joined a b)
joined_sound a b p q = record {
  ordered = lowest a.low a.high b.low b.high p.ordered;
  narrow = highest a.high b.high (2 ^ 16) p.narrow q.narrow;
  bounded = nothing_outside a b;
  valid = λ i. valid_either (inside a i) _ _ (p.valid i) (valid_either (inside b i) _ None (q.valid i) tt);
}

in_lower : (a b : Contents) (i : ℕ) → inside a i ≡ true → inside (joined a b) i ≡ true
in_lower a b i h = grind (arith, nat_tests)

in_upper : (a b : Contents) (i : ℕ) → inside b i ≡ true → inside (joined a b) i ≡ true
in_upper a b i h = grind (arith, nat_tests)

abbrev to_lower : Contents → Writing → Writing
to_lower b w = record { code = w.code; after = joined w.after b }

abbrev to_upper : Contents → Writing → Writing
to_upper a w = record { code = w.code; after = joined a w.after }

put_lower : (a b : Contents) (i : ℕ) (t : Typed) → inside a i ≡ true → put (joined a b) i t ≡ joined (put a i t) b
put_lower a b i t h =
    λ s. record { low = (joined a b).low; high = (joined a b).high; element = fun_ext {f = (put (joined a b) i t).element} {g = (joined (put a i t) b).element} (λ j. grind (arith, nat_tests)) s }

put_upper : (a b : Contents) (i : ℕ) (t : Typed) → inside a i ≡ false → inside b i ≡ true → put (joined a b) i t ≡ joined a (put b i t)
put_upper a b i t n h =
    λ s. record { low = (joined a b).low; high = (joined a b).high; element = fun_ext {f = (put (joined a b) i t).element} {g = (joined a (put b i t)).element} (λ j. grind (arith, nat_tests)) s }

at_lower : (o : Option Element) (a b : Contents) (i : ℕ) (t : Typed) → inside a i ≡ true → write_at o (joined a b) i t ≡ to_lower b (write_at o a i t)
at_lower None a b i t h = refl
at_lower (Some e) a b i t h =
    elim (barred e t.kind) as (λ d. cond d (kept 2 (joined a b)) (record { code = 0; after = put (joined a b) i t }) ≡ to_lower b (cond d (kept 2 a) (record { code = 0; after = put a i t })))
    [ true ↦ refl | false ↦ ap (λ (c : Contents). record { code = 0; after = c }) (put_lower a b i t h) ]

at_upper : (o : Option Element) (a b : Contents) (i : ℕ) (t : Typed) → inside a i ≡ false → inside b i ≡ true → write_at o (joined a b) i t ≡ to_upper a (write_at o b i t)
at_upper None a b i t n h = refl
at_upper (Some e) a b i t n h =
    elim (barred e t.kind) as (λ d. cond d (kept 2 (joined a b)) (record { code = 0; after = put (joined a b) i t }) ≡ to_upper a (cond d (kept 2 b) (record { code = 0; after = put b i t })))
    [ true ↦ refl | false ↦ ap (λ (c : Contents). record { code = 0; after = c }) (put_upper a b i t n h) ]

write_lower : (a b : Contents) (i : ℕ) (t : Typed) → inside a i ≡ true → to_lower b (write_of a i t) ≡ write_of (joined a b) i t
write_lower a b i t h =
    ap (to_lower b) (write_inside a i t h)
    ∙ sym (write_inside (joined a b) i t (in_lower a b i h) ∙ ap (λ o. write_at o (joined a b) i t) (cond-true _ _ _ h) ∙ at_lower (a.element i) a b i t h)

write_upper : (a b : Contents) (i : ℕ) (t : Typed) → inside a i ≡ false → inside b i ≡ true → to_upper a (write_of b i t) ≡ write_of (joined a b) i t
write_upper a b i t n h =
    ap (to_upper a) (write_inside b i t h)
    ∙ sym (write_inside (joined a b) i t (in_upper a b i h) ∙ ap (λ o. write_at o (joined a b) i t) (cond-false _ _ _ n ∙ cond-true _ _ _ h) ∙ at_upper (b.element i) a b i t n h)

-- what is to be shown of a write that gave the code n and left m
pub record Written (c : Contents) (i : ℕ) (t : Typed) (n : ℕ) (m : Contents) : Type 0 where
  pub code : n ≡ (write_of c i t).code
  pub after : m ≡ (write_of c i t).after

pub wrote_lower : (a b m : Contents) (i : ℕ) (t : Typed) (n : ℕ) → inside a i ≡ true → n ≡ (write_of a i t).code → m ≡ (write_of a i t).after → Written (joined a b) i t n (joined m b)
wrote_lower a b m i t n h p q =
    let w = write_lower a b i t h in
    record { code = p ∙ ap (λ r. r.code) w; after = ap (λ x. joined x b) q ∙ ap (λ r. r.after) w }

pub wrote_upper : (a b m : Contents) (i : ℕ) (t : Typed) (n : ℕ) → inside a i ≡ false → inside b i ≡ true → n ≡ (write_of b i t).code → m ≡ (write_of b i t).after → Written (joined a b) i t n (joined a m)
wrote_upper a b m i t n o h p q =
    let w = write_upper a b i t o h in
    record { code = p ∙ ap (λ r. r.code) w; after = ap (joined a) q ∙ ap (λ r. r.after) w }
