use Rattle.std.proofs.Common.{map, sym, ◌∙◌}
use Rattle.packet.specs.Messages.{read_answer}
use Rattle.writer.specs.Orders.{readout_of, readings_allowed, answered}
use Rattle.writer.proofs.Allowed.{Fitting, reading_fields, readings_same, ruled_readings, slice_spells, tested}
use Rattle.writer.proofs.answers.write_read_answer.Goals as goal

pub returns : goal.returns
returns c =
    let xs = c.args.readings.now in
    let m = answered c.args.version c.args.number (read_answer (map readout_of xs)) in
    let ok = c.readings_allowed.ensures in
    let e = tested c.readings_allowed.result (readings_allowed xs) m c.args.row.now ok (c.write.ensures m c.answer-head.ensures (λ ys d a.
    slice_spells c.iter.result reading_fields Fitting xs c.readings_allowed.result m ys c.iter.ensures.rest d a (readings_same xs)
    (λ fit t. ruled_readings c.args.version c.args.number xs c.ranges.number.fits fit (sym ok ∙ t)))) in
    record { told = e.told; row = e.row; back = e.back }
