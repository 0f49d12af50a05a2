use Rattle.std.proofs.Common.{None, decimal, refl, rules}
use Rattle.std.proofs.lemmas.Iterator.{YieldsList-from_map_by}
use Rattle.protocol.specs.Words.{code_number}
use Rattle.packet.specs.Cursors.{codes_ahead}
use Rattle.telling.proofs.Tells.{told_as, handed}
use Rattle.telling.proofs.groups.CodeWordsDisplay.fmt.Goals as goal

pub returns-clause-writes : goal.returns-clause-writes
returns-clause-writes g c =
    λ plain ok.
    let codes = codes_ahead c.args.self.now.0 in
    told_as codes decimal _ (λ code. decimal (code_number code)) _ _ _ (λ n. refl) (c.write_words.ensures plain ok)
    (YieldsList-from_map_by _ _ _ (handed (λ code. code) (λ _. None) codes_ahead codes cc) c.map.ensures.closure (λ x r q k. search rules))
