-- The law, over every history that can happen.
use Rattle.link.proofs.TheLaw.{the_law}
use Rattle.link.proofs.law.Goals as goal

pub returns : goal.returns
returns c = the_law
