use Rattle.std.proofs.Common.{refl, rules}
use Rattle.std.proofs.lemmas.Iterator.{YieldsList-from_map_by}
use Rattle.packet.specs.Cursors.{readout_of, reading_part, readings_ahead}
use Rattle.telling.specs.Lines.{reading_text}
use Rattle.telling.proofs.Tells.{told_as, handed}
use Rattle.telling.proofs.groups.ReadingWordsDisplay.fmt.Goals as goal

pub returns-clause-writes : goal.returns-clause-writes
returns-clause-writes g c =
    λ plain ok.
    let readings = readings_ahead c.args.self.now.0 in
    told_as readings (λ r. reading_text (readout_of r.0)) _ reading_text _ _ _ (λ r. refl) (c.write_words.ensures plain ok)
    (YieldsList-from_map_by _ (λ r. reading_text (readout_of r.0)) reading_text (handed readout_of reading_part readings_ahead readings cc) c.map.ensures.closure (λ x r q k. search rules))
