-- What the values that a station holds mean.
--     number_of l  the number that a long whole number is
--     kind_of v    the type of a value
--     datum_of v   the value itself
use Rattle.std.specs.Prelude.{ℤ, pos}
use Rattle.protocol.specs.Held.{text_bytes}
use Rattle.protocol.specs.declared.kind.Kind.{Kind}
use Rattle.protocol.specs.declared.kind.Kind.TheVariants as K
use Rattle.decimal.specs.Views.{real_of}
use Rattle.value.specs.Values.{Datum, truth, whole, real, words}
use Rattle.value.specs.declared.long.Long.{Long}
use Rattle.value.specs.declared.value.Value.{Value}
use Rattle.value.specs.declared.value.Value.TheVariants as V

abbrev pub number_of : Long → ℤ
number_of l = l.number

abbrev pub kind_of : Value → Kind
kind_of (V.Bo b) = K.Bo
kind_of (V.In n) = K.In
kind_of (V.Sh n) = K.Sh
kind_of (V.USh n) = K.USh
kind_of (V.Lo l) = K.Lo
kind_of (V.Si s) = K.Si
kind_of (V.Do d) = K.Do
kind_of (V.By n) = K.By
kind_of (V.St t) = K.St

abbrev pub datum_of : Value → Datum
datum_of (V.Bo b) = truth b
datum_of (V.In n) = whole n
datum_of (V.Sh n) = whole n
datum_of (V.USh n) = whole (pos n)
datum_of (V.Lo l) = whole (number_of l)
datum_of (V.Si s) = real (real_of s)
datum_of (V.Do d) = real (real_of d)
datum_of (V.By n) = whole (pos n)
datum_of (V.St t) = words (text_bytes t)
