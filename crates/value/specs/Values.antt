-- Values: what they are, which text reads as which, and how each is spelled.
--     read_as k bs     the value of type k that the bytes write, if they write one
--     value_read k bs  the same of bytes that are a text
--     spelled d        the one spelling of a value
--     Valid k d        d is a value of type k
use Rattle.std.specs.Prelude.{◌≡◌, ℕ, Bool, true, false, cond, List, ℤ, pos, negsuc, Some, None, codes, Option}
use Rattle.std.specs.Option.{option_map}
use Rattle.std.specs.Fmt.{signed_decimal}
use Rattle.std.specs.Str.{bytes_eq}
use Rattle.protocol.specs.Texts.{textual}
use Rattle.protocol.specs.declared.kind.Kind.{Kind}
use Rattle.protocol.specs.declared.kind.Kind.TheVariants as K
use Rattle.decimal.specs.Range.{single_of, double_of}
use Rattle.decimal.specs.Spelling.{spelling}
use Rattle.decimal.specs.declared.real.Real.{Real}
use Rattle.value.specs.Whole.{whole_of, long_least, long_most}

-- what a value is, apart from how a station holds it
pub data Datum : Type 0 where
  truth : Bool → Datum
  whole : ℤ → Datum
  real : Real → Datum
  words : List ℕ → Datum

-- True or False
abbrev pub truth_of : List ℕ → Option Bool
truth_of bs = cond (bytes_eq bs (codes "True")) (Some true) (cond (bytes_eq bs (codes "False")) (Some false) None)

-- In runs from -2147483648 to 2147483647, Sh from -32768 to 32767, USh from 0 to 65535, By from 0 to 255
abbrev pub read_as : Kind → List ℕ → Option Datum
read_as K.Bo bs = option_map truth (truth_of bs)
read_as K.In bs = option_map whole (whole_of (negsuc 2147483647) (pos 2147483647) bs)
read_as K.Sh bs = option_map whole (whole_of (negsuc 32767) (pos 32767) bs)
read_as K.USh bs = option_map whole (whole_of (pos 0) (pos 65535) bs)
read_as K.Lo bs = option_map whole (whole_of long_least long_most bs)
read_as K.Si bs = option_map real (single_of bs)
read_as K.Do bs = option_map real (double_of bs)
read_as K.By bs = option_map whole (whole_of (pos 0) (pos 255) bs)
read_as K.St bs = Some (words bs)

-- a value text is a text: 1 to 40 bytes of UTF-8, none of them reserved
abbrev pub value_read : Kind → List ℕ → Option Datum
value_read k bs = cond (textual bs) (read_as k bs) None

abbrev pub spelled : Datum → List ℕ
spelled (truth true) = codes "True"
spelled (truth false) = codes "False"
spelled (whole z) = signed_decimal z
spelled (real x) = spelling x
spelled (words bs) = bs

-- d is a value of type k: its spelling reads as d
abbrev pub Valid : Kind → Datum → Type 0
Valid k d = value_read k (spelled d) ≡ Some d
