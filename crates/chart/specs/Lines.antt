-- The lines of a text.
--     lines_of text   what its newlines end
--     left l          the lines that a cursor has still to hand out
use Rattle.std.specs.Prelude.{ℕ, cond, List, [], ◌∷◌, ◌==◌}
use Rattle.std.specs.List.{onto_first}
use Rattle.chart.specs.declared.lines.Lines.{Lines}

-- a newline ends a line, and so does the end of the text where a byte stands before it
abbrev pub lines_of : List ℕ → List (List ℕ)
lines_of [] = []
lines_of (b ∷ bs) = cond (b == 10) ([] ∷ lines_of bs) (onto_first b (lines_of bs))

abbrev pub left : Lines → List (List ℕ)
left l = lines_of l.rest.now
