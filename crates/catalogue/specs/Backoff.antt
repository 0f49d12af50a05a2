-- How long a catalogue keeps trying, as a law of its timing: the first interval T, the longest interval M and the number of
-- repeats R. Of an order that is opened at some time and polled at each of its deadlines,
--     poll_time t time j    when the j-th poll comes, j from 0: T × (2^(j + 1) - 1) after the opening
--     sends t j             whether it sends the packet again: j < R and T × 2^(j + 1) ≤ M
--     gives_up_at t time    when the order is given up: at the first poll that does not
use Rattle.std.specs.Prelude.{◌≡◌, ℕ, zero, suc, ◌+◌, ◌-◌, ◌*◌, ◌^◌, ◌<◌, ◌≤◌, Bool, true, cond, ◌&&◌, List, Some, None, Ok, Option, nat_le, nat_lt}
use Rattle.packet.specs.Messages.{Content}
use Rattle.catalogue.specs.declared.partner.Waiting.{Waiting}
use Rattle.catalogue.specs.declared.told.Poll.{Poll}
use Rattle.catalogue.specs.declared.told.Poll.TheVariants.{Again, Failed}
use Rattle.catalogue.specs.declared.told.Sent.{Sent}
use Rattle.catalogue.specs.declared.timing.Timing.{Timing}
use Rattle.catalogue.specs.Stations.{Station}
use Rattle.catalogue.specs.Opening.{partner, opening}
use Rattle.catalogue.specs.Polling.{polling}

abbrev pub poll_time : Timing → ℕ → ℕ → ℕ
poll_time t time j = time + t.first * (2 ^ (j + 1) - 1)

abbrev pub sends : Timing → ℕ → Bool
sends t j = nat_lt j t.repeats && nat_le (t.first * 2 ^ (j + 1)) t.longest

-- the first poll from the j-th on, of n, that does not send the packet again: the one behind them where all do
abbrev pub first_silent : Timing → ℕ → ℕ → ℕ
first_silent t j zero = j
first_silent t j (suc n) = cond (sends t j) (first_silent t (j + 1) n) j

-- the poll that gives up, which is at most the R-th
abbrev pub last_poll : Timing → ℕ
last_poll t = first_silent t 0 t.repeats

abbrev pub gives_up_at : Timing → ℕ → ℕ
gives_up_at t time = poll_time t time (last_poll t)

-- a time that can be reached: none above 10^15
abbrev pub reached : ℕ → Option ℕ
reached time = cond (nat_le time 1000000000000000) (Some time) None

-- the deadline of a transaction that waits
abbrev pub deadline_in : Option Waiting → ℕ
deadline_in None = 0
deadline_in (Some w) = w.deadline

-- the deadline of the one that waits at the k-th partner
abbrev pub deadline : Station → ℕ → ℕ
deadline s k = deadline_in (partner s k).waiting

-- the station after j polls of the k-th partner, each at the deadline there
abbrev pub polled_at_deadlines : Station → ℕ → ℕ → Station
polled_at_deadlines s k zero = s
polled_at_deadlines s k (suc j) = (polling (polled_at_deadlines s k j) k (deadline (polled_at_deadlines s k j) k)).after

-- the j-th of these polls comes at a time and says something
pub record PollAt (s : Station) (k j time : ℕ) (said : Poll) : Type 0 where
  pub due : deadline (polled_at_deadlines s k j) k ≡ time
  pub says : (polling (polled_at_deadlines s k j) k time).answer ≡ Ok said

-- where all polls before it said again, the j-th comes at its time and says again, or that the order has failed
abbrev pub BacksOff : Station → ℕ → Type 0
BacksOff s time =
    (slab : List ℕ) (k : ℕ) (allowed : Bool) (content : Content) (sent : Sent) → (opening s slab k time allowed content).answer ≡ Ok sent
    → (j : ℕ) → ((i : ℕ) → i < j → sends s.timing i ≡ true) → poll_time s.timing time j ≤ 1000000000000000
    → PollAt (opening s slab k time allowed content).after k j (poll_time s.timing time j) (cond (sends s.timing j) (Again sent.place) (Failed sent.number))

-- every poll before the last says again, and the last that the order has failed
abbrev pub GivesUp : Station → ℕ → Type 0
GivesUp s time =
    (slab : List ℕ) (k : ℕ) (allowed : Bool) (content : Content) (sent : Sent) → (opening s slab k time allowed content).answer ≡ Ok sent
    → gives_up_at s.timing time ≤ 1000000000000000
    → ((j : ℕ) → j < last_poll s.timing → PollAt (opening s slab k time allowed content).after k j (poll_time s.timing time j) (Again sent.place))
    × PollAt (opening s slab k time allowed content).after k (last_poll s.timing) (gives_up_at s.timing time) (Failed sent.number)
