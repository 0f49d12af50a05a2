-- What a read and a write give, case by case.
use Rattle.std.specs.Prelude.{◌≡◌, ℕ, true, false, Some}
use Rattle.std.proofs.Common.{ap, ◌∙◌}
use Rattle.std.proofs.lemmas.Bool.{cond-true, cond-false}
use Rattle.store.specs.Contents.{Contents, Element, Typed, inside, found, refused, read_of, kept, put, barred, write_at, write_of}

pub read_outside : (c : Contents) (i : ℕ) → inside c i ≡ false → read_of c i ≡ refused 3
read_outside c i h = cond-false _ _ _ h

pub read_inside : (c : Contents) (i : ℕ) → inside c i ≡ true → read_of c i ≡ found (c.element i)
read_inside c i h = cond-true _ _ _ h

pub write_outside : (c : Contents) (i : ℕ) (t : Typed) → inside c i ≡ false → write_of c i t ≡ kept 3 c
write_outside c i t h = cond-false _ _ _ h

pub write_inside : (c : Contents) (i : ℕ) (t : Typed) → inside c i ≡ true → write_of c i t ≡ write_at (c.element i) c i t
write_inside c i t h = cond-true _ _ _ h

pub write_barred : (c : Contents) (i : ℕ) (t : Typed) (e : Element) → inside c i ≡ true → c.element i ≡ Some e → barred e t.kind ≡ true → write_of c i t ≡ kept 2 c
write_barred c i t e h s d = write_inside c i t h ∙ ap (λ o. write_at o c i t) s ∙ cond-true _ _ _ d

pub write_done : (c : Contents) (i : ℕ) (t : Typed) (e : Element) → inside c i ≡ true → c.element i ≡ Some e → barred e t.kind ≡ false → write_of c i t ≡ record { code = 0; after = put c i t }
write_done c i t e h s d = write_inside c i t h ∙ ap (λ o. write_at o c i t) s ∙ cond-false _ _ _ d
