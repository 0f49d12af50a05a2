-- The words for types are characters.
use Rattle.std.proofs.Common.{◌≡◌, ℕ, List, None, IsUtf8, Option, sym, refl, ◌∙◌, subst, inl, inr}
use lib.Utf8.{encode}
use Rattle.std.specs.Str.{bytes_eq}
use Rattle.std.proofs.lemmas.Slice.Eq.{bytes_eq-Decides}
use Rattle.std.proofs.lemmas.Bool.{cases_Bool, cond-false}
use Rattle.protocol.specs.Words.{kind_word, kind_named, if_word}
use Rattle.protocol.specs.declared.kind.Kind.{Kind}
use Rattle.protocol.specs.declared.kind.Kind.TheVariants as K

word_utf8 : (k : Kind) → IsUtf8 (kind_word k)
unfolding encode
word_utf8 K.Bo = (kind_word K.Bo, (refl, refl))
word_utf8 K.In = (kind_word K.In, (refl, refl))
word_utf8 K.Sh = (kind_word K.Sh, (refl, refl))
word_utf8 K.USh = (kind_word K.USh, (refl, refl))
word_utf8 K.Lo = (kind_word K.Lo, (refl, refl))
word_utf8 K.Si = (kind_word K.Si, (refl, refl))
word_utf8 K.Do = (kind_word K.Do, (refl, refl))
word_utf8 K.By = (kind_word K.By, (refl, refl))
word_utf8 K.St = (kind_word K.St, (refl, refl))

-- bytes that are no text are not the word of k
skip : (bs : List ℕ) (k : Kind) (o : Option Kind) → (IsUtf8 bs → ⊥) → if_word bs k o ≡ o
skip bs k o h =
    elim (cases_Bool (bytes_eq bs (kind_word k))) [
      | inl t ↦ absurd (h (subst IsUtf8 (sym ((bytes_eq-Decides bs (kind_word k)).0 t)) (word_utf8 k)))
      | inr f ↦ cond-false _ _ _ f
    ]

-- what is no text is no type
pub no_type : (bs : List ℕ) → (IsUtf8 bs → ⊥) → kind_named bs ≡ None
no_type bs h =
    skip bs K.Bo _ h ∙ skip bs K.In _ h ∙ skip bs K.Sh _ h ∙ skip bs K.USh _ h ∙ skip bs K.Lo _ h
    ∙ skip bs K.Si _ h ∙ skip bs K.Do _ h ∙ skip bs K.By _ h ∙ skip bs K.St _ h
