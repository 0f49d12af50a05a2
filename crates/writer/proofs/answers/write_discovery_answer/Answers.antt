use Rattle.std.proofs.Common.{◌≡◌, Bool, true, false, ◌&&◌, [], ◌∷◌, sym, refl, ap, ◌∙◌}
use Rattle.field.specs.declared.words.Version.TheVariants.{V11}
use Rattle.packet.specs.Messages.{discovery_answer}
use Rattle.writer.specs.Orders.{readout_of, told, answered}
use Rattle.writer.proofs.Allowed.{Fitting, reading_fields, readings_same, ruled_discovered, slice_spells, tested}
use Rattle.writer.proofs.answers.write_discovery_answer.Goals as goal

and_true : (b : Bool) → (b && true) ≡ b
and_true true = refl
and_true false = refl

pub returns : goal.returns
returns c =
    let x = c.args.identifier in
    let y = c.args.security in
    let m = answered V11 c.args.number (discovery_answer (readout_of x ∷ readout_of y ∷ [])) in
    let ok = c.all_told.ensures ∙ ap (λ b. told x && b) (and_true (told y)) in
    let e = tested c.all_told.result (told x && told y) m c.args.row.now ok (c.write.ensures m c.answer-head.ensures (λ ys d a.
    slice_spells c.iter.result reading_fields Fitting (x ∷ y ∷ []) c.all_told.result m ys c.iter.ensures.rest d a (readings_same (x ∷ y ∷ []))
    (λ fit t. ruled_discovered c.args.number x y c.ranges.number.fits fit (sym ok ∙ t)))) in
    record { told = e.told; row = e.row; back = e.back }
