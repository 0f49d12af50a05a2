-- Rows line by line.
use Rattle.std.proofs.Common.{◌≡◌, ℕ, ◌+◌, List, ◌∷◌, ◌++◌, sym, ap, ◌∙◌, append_assoc, add-one}
use Rattle.sky.specs.Stars.{Row}
use Rattle.chart.specs.declared.chart.UnusedRow.{UnusedRow}
use Rattle.chart.specs.Rows.{with_line, charted, unused_at, unused}

-- what holds before a line holds behind it
pub record Holds (rows start : List Row) (ls all : List (List ℕ)) (us : List UnusedRow) (n : ℕ) : Type 0 where
  pub charts : charted rows ls ≡ charted start all
  pub troubles : us ++ unused (n + 1) rows ls ≡ unused 1 start all

pub turned : (rows next start : List Row) (line : List ℕ) (ls rest all : List (List ℕ)) (us more : List UnusedRow) (n : ℕ) → ls ≡ line ∷ rest → next ≡ with_line rows line → more ≡ us ++ unused_at (n + 1) rows line → Holds rows start ls all us n → Holds next start rest all more (n + 1)
turned rows next start line ls rest all us more n e w m h = record {
  charts = ap (λ x. charted x rest) w ∙ ap (charted rows) (sym e) ∙ h.charts;
  troubles = rw (m, w, append_assoc, add-one (n + 1)) (ap (λ x. us ++ unused (n + 1) rows x) (sym e) ∙ h.troubles);
}
