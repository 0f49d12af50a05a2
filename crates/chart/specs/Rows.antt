-- Which rows of a catalogue are used.
--     judged rows line     the row of a line, or why it is not used, where these rows are used already
--     charted rows lines   the rows that are used after these lines
--     unused n rows lines  the rows that are not used, by their lines, the first of which has number n
use Rattle.std.specs.Prelude.{ℕ, suc, Bool, cond, ◌||◌, List, [], ◌∷◌, ◌++◌, map, length, is_some, Some, None, Ok, Err, vec_items, Option, Result, ◌==◌, slice_index}
use Rattle.std.specs.Result.{result_map_both}
use Rattle.std.specs.Str.{bytes_eq}
use Rattle.sky.specs.Stars.{Row, row}
use Rattle.sky.specs.Rows.{row_of}
use Rattle.sky.specs.declared.fault.RowFault.{RowFault}
use Rattle.sky.specs.declared.star.Star.{Star}
use Rattle.chart.specs.declared.chart.Chart.{Chart}
use Rattle.chart.specs.declared.chart.RowTrouble.{RowTrouble}
use Rattle.chart.specs.declared.chart.RowTrouble.TheVariants.{Fault, Taken}
use Rattle.chart.specs.declared.chart.UnusedRow.{UnusedRow}

-- the rows of the stars of a chart
abbrev pub rows_of : Chart → List Row
rows_of c = map row (vec_items c.stars)

-- the row of the star, or the trouble
abbrev pub seen_row : Result Star RowTrouble → Result Row RowTrouble
seen_row r = result_map_both row (λ trouble. trouble) r

-- the first row with the name
abbrev pub named : List ℕ → List Row → Option Row
named name [] = None
named name (r ∷ rs) = cond (bytes_eq r.name name) (Some r) (named name rs)

-- a row that was read is used if none has its name yet
abbrev pub if_new : List Row → Result Row RowFault → Result Row RowTrouble
if_new rows (Ok r) = cond (is_some (named r.name rows)) (Err Taken) (Ok r)
if_new rows (Err fault) = Err (Fault fault)

abbrev pub judged : List Row → List ℕ → Result Row RowTrouble
judged rows line = if_new rows (row_of line)

-- an empty line, or one that begins with #, is no row
abbrev pub skipped : List ℕ → Bool
skipped line = length line == 0 || slice_index line 0 == 35

-- with the row, if it is used
abbrev pub with_row : List Row → Result Row RowTrouble → List Row
with_row rows (Ok r) = rows ++ r ∷ []
with_row rows (Err trouble) = rows

abbrev pub with_line : List Row → List ℕ → List Row
with_line rows line = cond (skipped line) rows (with_row rows (judged rows line))

abbrev pub charted : List Row → List (List ℕ) → List Row
charted rows [] = rows
charted rows (line ∷ lines) = charted (with_line rows line) lines

-- the row of line n, if it is not used
abbrev pub unused_row : ℕ → Result Row RowTrouble → List UnusedRow
unused_row n (Ok r) = []
unused_row n (Err trouble) = record { line = n; trouble = trouble } ∷ []

abbrev pub unused_at : ℕ → List Row → List ℕ → List UnusedRow
unused_at n rows line = cond (skipped line) [] (unused_row n (judged rows line))

abbrev pub unused : ℕ → List Row → List (List ℕ) → List UnusedRow
unused n rows [] = []
unused n rows (line ∷ lines) = unused_at n rows line ++ unused (suc n) (with_line rows line) lines
