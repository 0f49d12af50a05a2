use Rattle.std.proofs.Common.{All, ◌≡◌, ◌≤◌, ◌++◌, map, length, drop, vec_items, vec_len, vec_capacity}
use Rattle.store.specs.Runs.{answered, answers_of, after_of, BearsFault}
use Rattle.store.proofs.runs.run.Given as goal

abbrev pub invariant-loop-step : goal.invariant-loop-step
invariant-loop-step g l =
    (map answered (vec_items l.answers) ++ answers_of (g.S.Store.meaning l.store) (drop l.step-index l.steps) ≡ answers_of (g.S.Store.meaning l.initial.store) l.steps)
    × (after_of (g.S.Store.meaning l.store) (drop l.step-index l.steps) ≡ after_of (g.S.Store.meaning l.initial.store) l.steps)
    × (vec_len l.answers ≡ l.step-index)
    × All BearsFault (vec_items l.answers)
    × (length l.steps ≤ vec_capacity l.answers)
