-- The night's events are counted, and each of them is computed.
use Rattle.std.proofs.Common.{refl}
use Rattle.link.proofs.Night.{witnessed}
use Rattle.link.proofs.witness.Goals as goal

pub returns : goal.returns
returns c = record { events = refl; witnessed = witnessed }
