use Rattle.std.proofs.Common.{Some, None, decimal, refl, rules}
use Rattle.std.proofs.lemmas.Iterator.{YieldsList-from_map_by}
use Rattle.packet.specs.Cursors.{write_of, indices_ahead, writes_ahead}
use Rattle.telling.specs.Lines.{change_text}
use Rattle.telling.proofs.Tells.{told, told_as, handed}
use Rattle.telling.proofs.packets.GroupWordsDisplay.fmt.Goals as goal

pub returns-in-ReadRequest-clause-writes : goal.returns-in-ReadRequest-clause-writes
returns-in-ReadRequest-clause-writes g c =
    λ plain ok. rw c.in-ReadRequest.is
    (told (λ i. i) _ decimal _ _ _ (λ i. refl) (c.write_words.ensures plain ok) (handed (λ i. i) (λ _. None) indices_ahead (indices_ahead c.in-ReadRequest.indices) refl))

pub returns-in-WriteRequest-clause-writes : goal.returns-in-WriteRequest-clause-writes
returns-in-WriteRequest-clause-writes g c =
    λ plain ok.
    let writes = writes_ahead c.in-WriteRequest.writes in
    rw c.in-WriteRequest.is
    (told_as writes (λ r. change_text (write_of r.0)) _ change_text _ _ _ (λ r. refl) (c.write_words-in-WriteRequest.ensures plain ok)
    (YieldsList-from_map_by _ (λ r. change_text (write_of r.0)) change_text (handed write_of (λ w. Some w.text) writes_ahead writes cc) c.map.ensures.closure (λ x r q k. search rules)))
