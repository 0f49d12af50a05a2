use Rattle.std.proofs.Common.{vec_items, vec_len, ◌≤◌}
use Rattle.std.specs.Iterator.Adapters.{enumerate_source, enumerate_count}
use Rattle.chart.specs.Lines.{left, lines_of}
use Rattle.chart.specs.Rows.{rows_of}
use Rattle.chart.proofs.Charting.{Holds}
use Rattle.chart.proofs.chart.Chart.add_rows.Given as goal

abbrev pub invariant-loop-index : goal.invariant-loop-index
invariant-loop-index l = record {
  turns : Holds (rows_of l.self) (rows_of l.initial.self) (left (enumerate_source l.index-iterator)) (lines_of l.file) (vec_items l.unused) (enumerate_count l.index-iterator);
  grows : vec_len l.initial.self.stars ≤ vec_len l.self.stars;
}
