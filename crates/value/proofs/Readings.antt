-- Values and their spellings.
--     read_valid     what is read from a text is a value of its type: its spelling reads as the same value
--     value_valid    what a station holds is a value of its type
--     valid_textual  the spelling of a value is a text
--     valid_apart    two values have two spellings
use Rattle.std.proofs.Common.{◌≡◌, ℕ, ◌^◌, ◌<◌, Bool, true, false, cond, List, ℤ, pos, negsuc, ◌≤ℤ◌, IfSome, Some, None, Option, sym, refl, ap, ◌∙◌, subst, inl, inr, w16, w32, w64, SFits, rules}
use lib.Utf8.{encode}
use Rattle.std.specs.Option.{option_map}
use Rattle.std.specs.Fmt.{signed_decimal}
use Rattle.std.specs.Str.{chars}
use Rattle.std.proofs.lemmas.Slice.Eq.{bytes_eq-Decides}
use Rattle.std.proofs.lemmas.Int.{ints}
use Rattle.std.proofs.lemmas.Bool.{cases_Bool, cond-true, cond-false}
use Rattle.protocol.specs.Texts.{textual, text_of}
use Rattle.protocol.specs.declared.kind.Kind.{Kind}
use Rattle.protocol.specs.declared.kind.Kind.TheVariants as K
use Rattle.protocol.proofs.PlainText.{few}
use Rattle.decimal.specs.Range.{single_of, double_of, si_least, si_most, do_least, do_most}
use Rattle.decimal.proofs.Forms.{ranged_textual, ranged_back}
use Rattle.value.specs.Whole.{whole_of, long_least, long_most}
use Rattle.value.specs.Values.{Datum, truth, whole, real, words, truth_of, read_as, value_read, spelled, Valid}
use Rattle.value.specs.Meant.{kind_of, datum_of}
use Rattle.value.specs.declared.value.Value.{Value}
use Rattle.value.specs.declared.value.Value.TheVariants as V
use Rattle.value.proofs.Wholes.{reads_back, one_spelling}
use Rattle.value.proofs.Signs.{signed_textual}
use Rattle.value.proofs.Reals.{within_again}

mapped_some : {A B : Type 0} (f : A → B) (o : Option A) (y : B) → option_map f o ≡ Some y → (x : A) × ((o ≡ Some x) × (f x ≡ y))
mapped_some f None y e = cc
mapped_some f (Some x) y e = (x, (refl, cc))

-- what a reading says of the text
pub read_textual : (k : Kind) (bs : List ℕ) (d : Datum) → value_read k bs ≡ Some d → textual bs ≡ true
read_textual k bs d e =
    elim (cases_Bool (textual bs)) [
      | inl t ↦ t
      | inr t ↦ cc (sym (cond-false _ _ _ t) ∙ e)
    ]

pub reads_as : (k : Kind) (bs : List ℕ) (d : Datum) → value_read k bs ≡ Some d → read_as k bs ≡ Some d
reads_as k bs d e = sym (cond-true _ _ _ (read_textual k bs d e)) ∙ e

one_truth : (bs : List ℕ) (b : Bool) → truth_of bs ≡ Some b → bs ≡ spelled (truth b)
one_truth bs true e = search (rules, bytes_eq-Decides)
one_truth bs false e = search (rules, bytes_eq-Decides)

bool_once : (bs : List ℕ) (d : Datum) → option_map truth (truth_of bs) ≡ Some d → bs ≡ spelled d
bool_once bs d e = let m = mapped_some truth (truth_of bs) d e in one_truth bs m.0 m.1.0 ∙ ap spelled m.1.1

again : (k : Kind) (bs : List ℕ) (d : Datum) → bs ≡ spelled d → value_read k bs ≡ Some d → Valid k d
again k bs d s e = subst (λ cs. value_read k cs ≡ Some d) s e

whole_once : (lo hi : ℤ) (bs : List ℕ) (d : Datum) → SFits w64 lo → SFits w64 hi → option_map whole (whole_of lo hi bs) ≡ Some d → bs ≡ spelled d
whole_once lo hi bs d f g e = let m = mapped_some whole (whole_of lo hi bs) d e in one_spelling lo hi m.0 bs f g m.1.0 ∙ ap spelled m.1.1

-- d is a value of type k, by its reading from some text
pub read_valid : (k : Kind) (bs : List ℕ) (d : Datum) → value_read k bs ≡ Some d → Valid k d
read_valid K.Bo bs d e = again K.Bo bs d (bool_once bs d (reads_as K.Bo bs d e)) e
read_valid K.In bs d e = again K.In bs d (whole_once (negsuc 2147483647) (pos 2147483647) bs d (search rules) (search rules) (reads_as K.In bs d e)) e
read_valid K.Sh bs d e = again K.Sh bs d (whole_once (negsuc 32767) (pos 32767) bs d (search rules) (search rules) (reads_as K.Sh bs d e)) e
read_valid K.USh bs d e = again K.USh bs d (whole_once (pos 0) (pos 65535) bs d (search rules) (search rules) (reads_as K.USh bs d e)) e
read_valid K.Lo bs d e = again K.Lo bs d (whole_once long_least long_most bs d (search rules) (search rules) (reads_as K.Lo bs d e)) e
read_valid K.Si bs d e =
    let m = mapped_some real (single_of bs) d (reads_as K.Si bs d e) in
    let a = within_again si_least si_most bs m.0 refl refl (few bs (read_textual K.Si bs d e)) m.1.0 in
    subst (λ x. Valid K.Si x) m.1.1 (cond-true _ _ _ a.0 ∙ ap (option_map real) a.1)
read_valid K.Do bs d e =
    let m = mapped_some real (double_of bs) d (reads_as K.Do bs d e) in
    let a = within_again do_least do_most bs m.0 refl refl (few bs (read_textual K.Do bs d e)) m.1.0 in
    subst (λ x. Valid K.Do x) m.1.1 (cond-true _ _ _ a.0 ∙ ap (option_map real) a.1)
read_valid K.By bs d e = again K.By bs d (whole_once (pos 0) (pos 255) bs d (search rules) (search rules) (reads_as K.By bs d e)) e
read_valid K.St bs d e = let s : Some (words bs) ≡ Some d = reads_as K.St bs d e in let t : words bs ≡ d = cc in again K.St bs d (ap spelled t) e

-- the spelling of a value is a text, and is spelled as it stands
pub valid_textual : (k : Kind) (d : Datum) → Valid k d → textual (spelled d) ≡ true
valid_textual k d v = read_textual k (spelled d) d v

pub valid_once : (k : Kind) (d : Datum) → Valid k d → option_map spelled (value_read k (spelled d)) ≡ Some (spelled d)
valid_once k d v = ap (option_map spelled) v

-- values of one type with one spelling are the same
pub valid_apart : (k : Kind) (d e : Datum) → Valid k d → Valid k e → spelled d ≡ spelled e → d ≡ e
valid_apart k d e v w s = let r : Some d ≡ Some e = sym v ∙ ap (value_read k) s ∙ w in cc

-- a number held in so many bits lies between the ends of its type
abbrev pub Fit : Value → Type 0
Fit (V.Bo b) = Unit {0}
Fit (V.In n) = SFits w32 n
Fit (V.Sh n) = SFits w16 n
Fit (V.USh n) = n < 2 ^ 16
Fit (V.Lo l) = Unit {0}
Fit (V.Si s) = Unit {0}
Fit (V.Do d) = Unit {0}
Fit (V.By n) = n < 2 ^ 8
Fit (V.St t) = Unit {0}

pub truth_textual : (b : Bool) → textual (spelled (truth b)) ≡ true
unfolding chars encode
truth_textual true = refl
truth_textual false = refl

whole_back : (lo hi z : ℤ) → SFits w64 z → lo ≤ℤ z → z ≤ℤ hi → cond (textual (signed_decimal z)) (option_map whole (whole_of lo hi (signed_decimal z))) None ≡ Some (whole z)
whole_back lo hi z f a b = cond-true _ _ _ (signed_textual z f) ∙ ap (option_map whole) (reads_back lo hi z f a b)

-- what a station holds is a value of its type
pub value_valid : (v : Value) → Fit v → Valid (kind_of v) (datum_of v)
value_valid (V.Bo true) f = cond-true _ _ _ (truth_textual true)
value_valid (V.Bo false) f = cond-true _ _ _ (truth_textual false)
value_valid (V.In n) f = whole_back (negsuc 2147483647) (pos 2147483647) n (search rules) (search (rules, ints)) (search (rules, ints))
value_valid (V.Sh n) f = whole_back (negsuc 32767) (pos 32767) n (search rules) (search (rules, ints)) (search (rules, ints))
value_valid (V.USh n) f = whole_back (pos 0) (pos 65535) (pos n) (search rules) (search (rules, ints)) (search (rules, ints))
value_valid (V.Lo l) f = whole_back long_least long_most l.number (search rules) l.within.0 l.within.1
value_valid (V.Si s) f = cond-true _ _ _ (ranged_textual s) ∙ ap (option_map real) (ranged_back s)
value_valid (V.Do d) f = cond-true _ _ _ (ranged_textual d) ∙ ap (option_map real) (ranged_back d)
value_valid (V.By n) f = whole_back (pos 0) (pos 255) (pos n) (search rules) (search (rules, ints)) (search (rules, ints))
value_valid (V.St t) f = cond-true _ _ _ t.plain

pub value_textual : (v : Value) → Fit v → textual (spelled (datum_of v)) ≡ true
value_textual v f = valid_textual (kind_of v) (datum_of v) (value_valid v f)

pub held_valid : (v w : Value) → v ≡ w → Fit w → Valid (kind_of v) (datum_of v)
held_valid v w e f = subst (λ x. Valid (kind_of x) (datum_of x)) (sym e) (value_valid w f)

-- the bytes of a text that was made of bytes
pub text_made : (bs ts : List ℕ) → Some ts ≡ text_of bs → (textual bs ≡ true) × (ts ≡ bs)
text_made bs ts e =
    elim (cases_Bool (textual bs)) [
      | inl t ↦ let s : Some ts ≡ Some bs = e ∙ cond-true _ _ _ t in (t, cc)
      | inr t ↦ cc (e ∙ cond-false _ _ _ t)
    ]

pub reading_valid : (k : Kind) (bs : List ℕ) (o : Option Value) → option_map datum_of o ≡ value_read k bs → IfSome o (λ v. Valid k (datum_of v))
reading_valid k bs None e = tt
reading_valid k bs (Some v) e = read_valid k bs (datum_of v) (sym e)

-- what is to be shown of a spelling
pub record Spelling (v : Value) (bs : List ℕ) : Type 0 where
  pub bytes : bs ≡ spelled (datum_of v)
  pub back : value_read (kind_of v) bs ≡ Some (datum_of v)
  pub plain : textual bs ≡ true
  pub once : option_map spelled (value_read (kind_of v) bs) ≡ Some bs

spelling_of : (v : Value) (bs : List ℕ) → bs ≡ spelled (datum_of v) → Valid (kind_of v) (datum_of v) → Spelling v bs
spelling_of v bs e ok =
    let k = kind_of v in
    let d = datum_of v in
    let r : value_read k bs ≡ Some d = ap (value_read k) e ∙ ok in
    record { bytes = e; back = r; plain = read_textual k bs d r; once = ap (option_map spelled) r ∙ ap Some (sym e) }

pub spells : (v w : Value) (bs : List ℕ) → v ≡ w → Fit w → bs ≡ spelled (datum_of w) → Spelling v bs
spells v w bs e f s = subst (λ x. Spelling x bs) (sym e) (spelling_of w bs s (value_valid w f))
