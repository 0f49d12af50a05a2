-- The bytes that a text, and a number written out, hold.
use Rattle.std.specs.Prelude.{ℕ, List, take}
use Rattle.protocol.specs.declared.text.Text.{Text}
use Rattle.protocol.specs.declared.numeral.Numeral.{Numeral}

abbrev pub text_bytes : Text → List ℕ
text_bytes t = take t.len t.bytes

abbrev pub digits_of : Numeral → List ℕ
digits_of n = take n.len n.bytes
