use Rattle.std.proofs.Common.{sym, ap, ◌∙◌}
use Rattle.std.proofs.lemmas.Bool.{cond-true}
use Rattle.protocol.specs.Held.{text_bytes}
use Rattle.value.specs.Values.{read_as}
use Rattle.value.proofs.Readings.{text_made, reading_valid}
use Rattle.value.proofs.read.read_value.Goals as goal

pub returns : goal.returns
returns c =
    let k = c.args.kind in
    let bs = c.args.text.now in
    let m = text_made bs (text_bytes c.in_ok-new.field-0) c.in_ok-new.ensures in
    let e = c.read_text.ensures.value ∙ ap (read_as k) m.1 ∙ sym (cond-true _ _ _ m.0) in
    record { value = e; kind = c.read_text.ensures.kind; again = reading_valid k bs c.read_text.result e }
