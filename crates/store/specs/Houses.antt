-- The house record is sound.
use Rattle.std.specs.Prelude.{◌≡◌, ℕ, Bool, true, false, cond, List, Some, None, Option, ◌==◌}
use Rattle.std.proofs.Common.{arith, lit<, lit≤}
use Rattle.std.proofs.lemmas.Bool.{cond-true}
use Rattle.std.proofs.lemmas.Bool.Decides.{nat_tests}
use Rattle.protocol.specs.Texts.{textual}
use Rattle.protocol.specs.declared.kind.Kind.TheVariants as K
use Rattle.value.specs.Values.{Valid, words}
use Rattle.value.specs.declared.value.Value.TheVariants as V
use Rattle.value.proofs.Readings.{value_valid}
use Rattle.store.specs.Contents.{Element, ValidIn, Sound, inside}
use Rattle.store.specs.House.{nought, plate, house_element, house_of}

-- one element more, behind a test
pub valid_more : (b : Bool) (e : Element) (o : Option Element) → ValidIn (Some e) → ValidIn o → ValidIn (cond b (Some e) o)
valid_more true e o v w = v
valid_more false e o v w = w

words_valid : (bs : List ℕ) → textual bs ≡ true → Valid K.St (words bs)
words_valid bs t = cond-true _ _ _ t

nought_valid : ValidIn (Some nought)
nought_valid = value_valid (V.By 0) (lit< tt)

outside : (s t : List ℕ) (i : ℕ) → inside (house_of s t) i ≡ false → house_element s t i ≡ None
outside s t i h = grind (arith, nat_tests)

pub house_sound : (s t : List ℕ) → textual s ≡ true → textual t ≡ true → Sound (house_of s t)
house_sound s t p q = record {
  ordered = lit≤ tt;
  narrow = lit< tt;
  bounded = outside s t;
  valid = λ i.
      valid_more (i == 0) nought _ nought_valid
      (valid_more (i == 1) (plate s) _ (words_valid s p)
      (valid_more (i == 2) (plate t) _ (words_valid t q)
      (valid_more (i == 3) nought None nought_valid tt)));
}
