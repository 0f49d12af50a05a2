use Rattle.std.proofs.Common.{◌≡◌, ◌++◌, refl}
use Rattle.std.proofs.Output.{has_written_append}
use Rattle.std.proofs.lemmas.List.{take-append-drop}
use Rattle.notation.proofs.Parts.{part_more}
use Rattle.notation.proofs.strings.NotedDisplay.fmt.Goals as goal

pub loop-rest-preserved : goal.loop-rest-preserved
loop-rest-preserved g c = λ p.
    let so_far = c.loop-rest.invariant p in
    let part = c.split_at.result.0.now in
    let behind = c.split_at.result.1.now in
    let whole : part ++ behind ≡ c.loop-rest.rest.now = rw (c.split_at.ensures.front, c.split_at.ensures.back) (take-append-drop _ _) in (
      so_far.0 ++ c.note.result.now,
      has_written_append _ _ _ _ _ _ so_far.1 (c.in_ok-write_str.ensures.writes so_far.1.plain refl),
      rw c.note.ensures (part_more so_far.0 part behind _ _ whole so_far.2),
    )
