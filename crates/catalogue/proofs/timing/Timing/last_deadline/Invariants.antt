use Rattle.std.proofs.Common.{◌≡◌, ◌-◌, ◌*◌, ◌^◌, ◌≤◌}
use Rattle.catalogue.specs.Backoff.{poll_time, first_silent, last_poll}
use Rattle.catalogue.proofs.timing.Timing.last_deadline.Given as goal

abbrev pub invariant-loop-repeat : goal.invariant-loop-repeat
invariant-loop-repeat l =
    (l.deadline ≡ poll_time l.self l.time l._repeat)
    × (l.interval ≡ l.self.first * 2 ^ l._repeat)
    × (l.interval ≤ l.self.longest)
    × (first_silent l.self l._repeat (l.self.repeats - l._repeat) ≡ last_poll l.self)
