use Rattle.catalogue.proofs.Tries.{backs_off, gives_up}
use Rattle.catalogue.proofs.catalogue.Catalogue.gives_up_at.Goals as goal

pub returns-clause-each : goal.returns-clause-each
returns-clause-each c = backs_off c.args.self.now c.args.time

pub returns-clause-all : goal.returns-clause-all
returns-clause-all c = gives_up c.args.self.now c.args.time
