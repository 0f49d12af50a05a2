-- Why a row is not used, in words.
use Rattle.std.specs.Prelude.{ℕ, List, codes}
use Rattle.sky.specs.Faults.{fault_text}
use Rattle.chart.specs.declared.chart.RowTrouble.{RowTrouble}
use Rattle.chart.specs.declared.chart.RowTrouble.TheVariants.{Fault, Taken}

abbrev pub trouble_text : RowTrouble → List ℕ
trouble_text (Fault fault) = fault_text fault
trouble_text Taken = codes "the name stands in an earlier row, which holds"
