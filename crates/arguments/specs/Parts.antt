-- Words of several parts.
--     cut_at mark word    what stands before and behind the first mark
--     item_of word        an element: INDEX:TYPE:TEXT, or INDEX:TYPE:TEXT:fixed
--     star_of word        a star: NAME:RA:DEC
--     change_of word      an index and a text: I=TEXT
use Rattle.std.specs.Prelude.{ℕ, Bool, true, false, cond, List, [], ◌∷◌, Some, None, vec_items, codes, Option, ◌==◌}
use Rattle.std.specs.Option.{option_map}
use Rattle.std.specs.Str.{bytes_eq}
use Rattle.protocol.specs.Words.{kind_named}
use Rattle.protocol.specs.declared.kind.Kind.{Kind}
use Rattle.protocol.specs.declared.kind.Kind.TheVariants as K
use Rattle.value.specs.Values.{Datum, whole, value_read}
use Rattle.field.specs.Numerals.{numeral}
use Rattle.notation.specs.Strings.{word_of}
use Rattle.arguments.specs.declared.parts.ItemWord.{ItemWord}
use Rattle.arguments.specs.declared.parts.StarWord.{StarWord}
use Rattle.arguments.specs.declared.parts.ChangeWord.{ChangeWord}

-- what comes of a part, if it means anything
abbrev pub then : {X Y : Type 0} → Option X → (X → Option Y) → Option Y
then None next = None
then (Some x) next = next x

-- a byte in front of the first of two parts
abbrev pub onto : ℕ → List ℕ × List ℕ → List ℕ × List ℕ
onto b p = (b ∷ p.0, p.1)

abbrev pub cut_at : ℕ → List ℕ → Option (List ℕ × List ℕ)
cut_at mark [] = None
cut_at mark (b ∷ bs) = cond (b == mark) (Some ([], bs)) (option_map (onto b) (cut_at mark bs))

-- what the first two colons part
abbrev pub three_of : List ℕ → Option (List ℕ × List ℕ × List ℕ)
three_of word = then (cut_at 58 word) (λ a. then (cut_at 58 a.1) (λ b. Some (a.0, b.0, b.1)))

-- the bytes of a text, and whether the word `fixed` stands behind it
abbrev pub fixed_by : List ℕ → Option (List ℕ × List ℕ) → Option (List ℕ × Bool)
fixed_by text None = Some (text, false)
fixed_by text (Some p) = cond (bytes_eq p.1 (codes "fixed")) (Some (p.0, true)) None

abbrev pub fixed_of : List ℕ → Option (List ℕ × Bool)
fixed_of word = fixed_by word (cut_at 58 word)

pub record Item : Type 0 where
  pub index : ℕ
  pub kind : Kind
  pub text : List ℕ
  pub fixed : Bool

abbrev pub item_of : List ℕ → Option Item
item_of word =
    then (three_of word) (λ p.
    then (fixed_of p.2) (λ t.
    then (numeral 65535 p.0) (λ index.
    then (kind_named p.1) (λ kind.
    then (word_of t.0) (λ text.
    Some (record { index = index; kind = kind; text = text; fixed = t.1 }))))))

abbrev pub item : ItemWord → Item
item w = record { index = w.index; kind = w.kind; text = vec_items w.text; fixed = w.fixed }

-- two angles are values of type In
pub record Star : Type 0 where
  pub name : List ℕ
  pub ascension : Datum
  pub declination : Datum

abbrev pub star_of : List ℕ → Option Star
star_of word =
    then (three_of word) (λ p.
    then (value_read K.In p.1) (λ ascension.
    then (value_read K.In p.2) (λ declination.
    then (word_of p.0) (λ name.
    Some (record { name = name; ascension = ascension; declination = declination })))))

abbrev pub star : StarWord → Star
star w = record { name = vec_items w.name; ascension = whole w.ascension; declination = whole w.declination }

pub record Change : Type 0 where
  pub index : ℕ
  pub text : List ℕ

abbrev pub change_of : List ℕ → Option Change
change_of word =
    then (cut_at 61 word) (λ a.
    then (numeral 65535 a.0) (λ index.
    then (word_of a.1) (λ text.
    Some (record { index = index; text = text }))))

abbrev pub change : ChangeWord → Change
change w = record { index = w.index; text = vec_items w.text }
