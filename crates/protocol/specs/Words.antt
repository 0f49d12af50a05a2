-- The words of the protocol: what each type, code and refusal is called and numbered.
--     kind_number k, kind_word k      the place of a type in the table of types, and its identifier
--     kind_named word                 the type that an identifier names
--     code_number c, code_numbered n  the number of an answer code, and back
--     refusal_number r                the number of a ground for turning a call down
--     refusal_field r                 the first field at fault, of the three grounds that have one
--     refusal_line r                  how a ground is written: `refused`, its number, and the field at fault
use Rattle.std.specs.Prelude.{ℕ, cond, List, [], ◌++◌, Some, None, codes, Option, ◌==◌, decimal}
use Rattle.std.specs.Str.{bytes_eq}
use Rattle.protocol.specs.declared.kind.Kind.{Kind}
use Rattle.protocol.specs.declared.kind.Kind.TheVariants as K
use Rattle.protocol.specs.declared.code.Code.{Code}
use Rattle.protocol.specs.declared.code.Code.TheVariants as C
use Rattle.protocol.specs.declared.refusal.Refusal.{Refusal}
use Rattle.protocol.specs.declared.refusal.Refusal.TheVariants as R

abbrev pub kind_number : Kind → ℕ
kind_number K.Bo = 0
kind_number K.In = 1
kind_number K.Sh = 2
kind_number K.USh = 3
kind_number K.Lo = 4
kind_number K.Si = 5
kind_number K.Do = 6
kind_number K.By = 7
kind_number K.St = 8

abbrev pub kind_word : Kind → List ℕ
kind_word K.Bo = codes "Bo"
kind_word K.In = codes "In"
kind_word K.Sh = codes "Sh"
kind_word K.USh = codes "USh"
kind_word K.Lo = codes "Lo"
kind_word K.Si = codes "Si"
kind_word K.Do = codes "Do"
kind_word K.By = codes "By"
kind_word K.St = codes "St"

-- k where the word is k's, or else what was found before
abbrev pub if_word : List ℕ → Kind → Option Kind → Option Kind
if_word word k other = cond (bytes_eq word (kind_word k)) (Some k) other

abbrev pub kind_named : List ℕ → Option Kind
kind_named word =
    if_word word K.Bo (if_word word K.In (if_word word K.Sh (if_word word K.USh (if_word word K.Lo
    (if_word word K.Si (if_word word K.Do (if_word word K.By (if_word word K.St None))))))))

abbrev pub code_number : Code → ℕ
code_number C.Done = 0
code_number C.NotFound = 1
code_number C.WrongType = 2
code_number C.OutsideLimits = 3

abbrev pub code_numbered : ℕ → Option Code
code_numbered n =
    cond (n == 0) (Some C.Done) (cond (n == 1) (Some C.NotFound)
    (cond (n == 2) (Some C.WrongType) (cond (n == 3) (Some C.OutsideLimits) None)))

abbrev pub refusal_number : Refusal → ℕ
refusal_number R.Time = 1
refusal_number R.ShortMemory = 2
refusal_number R.TooLong = 3
refusal_number R.Frame = 4
refusal_number R.NotUtf8 = 5
refusal_number (R.Head field) = 6
refusal_number (R.Command field) = 7
refusal_number (R.Payload field) = 8
refusal_number R.Direction = 9
refusal_number R.Unknown = 10
refusal_number R.OldNumber = 11
refusal_number R.NoMatch = 12
refusal_number R.Limit = 13
refusal_number R.Enlisted = 14
refusal_number R.StillWaits = 15
refusal_number R.NoneWaits = 16
refusal_number R.Exhausted = 17

abbrev pub refusal_field : Refusal → Option ℕ
refusal_field R.Time = None
refusal_field R.ShortMemory = None
refusal_field R.TooLong = None
refusal_field R.Frame = None
refusal_field R.NotUtf8 = None
refusal_field (R.Head field) = Some field
refusal_field (R.Command field) = Some field
refusal_field (R.Payload field) = Some field
refusal_field R.Direction = None
refusal_field R.Unknown = None
refusal_field R.OldNumber = None
refusal_field R.NoMatch = None
refusal_field R.Limit = None
refusal_field R.Enlisted = None
refusal_field R.StillWaits = None
refusal_field R.NoneWaits = None
refusal_field R.Exhausted = None

-- a space and the number
abbrev pub number_word : ℕ → List ℕ
number_word n = codes " " ++ decimal n

abbrev pub field_word : Option ℕ → List ℕ
field_word None = []
field_word (Some field) = number_word field

abbrev pub refusal_line : Refusal → List ℕ
refusal_line r = codes "refused" ++ (number_word (refusal_number r) ++ field_word (refusal_field r))
