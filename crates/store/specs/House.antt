-- What the house record means: 0 Ping, 1 the serial, 2 the identifier and 3 the security mode, all fixed, between 0 and 99.
use Rattle.std.specs.Prelude.{ℕ, cond, List, pos, Some, None, Option, ◌==◌}
use Rattle.protocol.specs.Held.{text_bytes}
use Rattle.protocol.specs.declared.kind.Kind.TheVariants as K
use Rattle.value.specs.Values.{whole, words}
use Rattle.store.specs.Contents.{Element, Contents, fixed}
use Rattle.store.specs.declared.house.HouseRecord.{HouseRecord}

-- a fixed By of 0
abbrev pub nought : Element
nought = fixed (record { kind = K.By; datum = whole (pos 0) })

-- a fixed text
abbrev pub plate : List ℕ → Element
plate bs = fixed (record { kind = K.St; datum = words bs })

abbrev pub house_element : List ℕ → List ℕ → ℕ → Option Element
house_element serial identifier i =
    cond (i == 0) (Some nought)
    (cond (i == 1) (Some (plate serial))
    (cond (i == 2) (Some (plate identifier))
    (cond (i == 3) (Some nought) None)))

abbrev pub house_of : List ℕ → List ℕ → Contents
house_of serial identifier = record { low = 0; high = 99; element = house_element serial identifier }

abbrev pub house : HouseRecord → Contents
house h = house_of (text_bytes h.serial) (text_bytes h.identifier)
