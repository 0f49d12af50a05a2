use Rattle.std.proofs.Common.{sym, refl, ◌∙◌}
use Rattle.packet.specs.Messages.{write_answer}
use Rattle.writer.specs.Bytes.{code_fields}
use Rattle.writer.specs.Orders.{counted, answered}
use Rattle.writer.proofs.Allowed.{ruled_codes, slice_spells, tested}
use Rattle.writer.proofs.answers.write_write_answer.Goals as goal

pub returns : goal.returns
returns c =
    let cs = c.args.codes.now in
    let m = answered c.args.version c.args.number (write_answer cs) in
    let ok = c.codes_allowed.ensures in
    let e = tested c.codes_allowed.result (counted cs) m c.args.row.now ok (c.write.ensures m c.answer-head.ensures (λ xs d a.
    slice_spells c.iter.result code_fields (λ _. Unit {0}) cs c.codes_allowed.result m xs c.iter.ensures.rest d a refl (λ _ t. ruled_codes c.args.version c.args.number cs c.ranges.number.fits (sym ok ∙ t)))) in
    record { told = e.told; row = e.row; back = e.back }
