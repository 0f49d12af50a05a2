use Rattle.std.proofs.Common.{◌≡◌, ◌+◌, ◌≤◌, drop}
use Rattle.catalogue.specs.Stations.{waiting_in}
use Rattle.catalogue.proofs.partners.count_waiting.Given as goal

abbrev pub invariant-loop-partner : goal.invariant-loop-partner
invariant-loop-partner l = (l.count ≤ l.partner-index) × (l.count + waiting_in (drop l.partner-index l.partners) ≡ waiting_in l.partners)
