use Rattle.notation.proofs.Backs.{read_back}
use Rattle.notation.proofs.strings.Noted.new.Goals as goal

pub returns : goal.returns
returns c = record { bytes = cc; back = read_back c.args.bytes.now (λ k _. (c.type_inv.bytes k).fits) }
