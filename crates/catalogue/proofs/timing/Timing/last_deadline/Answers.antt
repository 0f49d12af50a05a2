use Rattle.std.proofs.Common.{◌+◌, ◌-◌, ◌*◌, ◌^◌, ◌<◌, ◌≤◌, sym, ap, ◌∙◌, arith}
use Rattle.catalogue.specs.Backoff.{poll_time}
use Rattle.catalogue.proofs.Tries.{doubles, next_time, silent_more, silent_done}
use Rattle.catalogue.proofs.timing.Timing.last_deadline.Goals as goal

pub loop-repeat-preserved : goal.loop-repeat-preserved
loop-repeat-preserved c =
    let t = c.args.self in
    let j = c.loop-repeat._repeat in
    let d = doubles t.first j in
    let within : t.first * 2 ^ (j + 1) ≤ t.longest = omega (arith, c.loop-repeat.invariant) in
    (omega (arith, next_time t c.args.time j, c.loop-repeat.invariant), omega (arith, c.loop-repeat.invariant), omega arith, sym (silent_more t j (omega arith) within) ∙ c.loop-repeat.invariant.3)

pub returns-then-interval-self : goal.returns-then-interval-self
returns-then-interval-self c =
    let t = c.args.self in
    let j = c.loop-repeat._repeat in
    let d = doubles t.first j in
    let above : t.longest < t.first * 2 ^ (j + 1) = omega (arith, c.loop-repeat.invariant) in
    c.loop-repeat.invariant.0 ∙ ap (poll_time t c.args.time) (sym (silent_done t j above (t.repeats - j)) ∙ c.loop-repeat.invariant.3)
