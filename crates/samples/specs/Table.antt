-- The table: packets, values, times and numbers, and what the rules make of each.
use Rattle.std.specs.Prelude.{List, [], ◌∷◌, codes}
use Rattle.protocol.specs.declared.kind.Kind.TheVariants.{Do, In, Si}
use Rattle.field.specs.declared.words.Version.TheVariants.{V11}
use Rattle.packet.specs.Messages.{read_request}
use Rattle.samples.specs.Samples.{Sample, reads, gets, written, no_value, sent_at, after_it, both, AllFollow}

abbrev pub table : List Sample
table =
    reads (codes "{1.1:R:7:1:100:101}") (record { version = V11; number = 7; content = read_request (100 ∷ 101 ∷ []) })
    ∷ gets (codes "{1.1:R:07:1:100}") 6 2
    ∷ gets (codes "{1.1:R:7:4:100}") 7 3
    ∷ gets (codes "{1.1:R:7:1}") 8 4
    ∷ written Do (codes "2.2E17") (codes "2.2E+17")
    ∷ both (written Do (codes "0.00001") (codes "1E-05")) (written Do (codes "0.0001") (codes "0.0001"))
    ∷ both (no_value In (codes "-0")) (written Si (codes "-0") (codes "0"))
    ∷ both (written Si (codes "3.4028235E+38") (codes "3.4028235E+38")) (no_value Si (codes "3.4028236E+38"))
    ∷ sent_at (record { first = 3000; longest = 24000; repeats = 10 }) (3000 ∷ 9000 ∷ 21000 ∷ []) 45000
    ∷ after_it (codes "{1.1:R:5:1:100}") (codes "{1.1:R:4:1:100}") 11
    ∷ []

-- all ten follow from the rules
abbrev pub TenSamples : Type 0
TenSamples = AllFollow table
