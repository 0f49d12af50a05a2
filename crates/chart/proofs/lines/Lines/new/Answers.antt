use Rattle.std.proofs.Common.{rules}
use Rattle.chart.proofs.Newlines.{few_lines}
use Rattle.chart.proofs.lines.Lines.new.Goals as goal

pub returns-clause-few : goal.returns-clause-few
returns-clause-few c = search (rules, few_lines)
