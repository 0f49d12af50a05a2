use Rattle.std.proofs.Common.{◌<◌, map, sym, ◌∙◌}
use Rattle.std.proofs.lemmas.List.Folds.{flat_map-map}
use Rattle.packet.specs.Messages.{write_request}
use Rattle.writer.specs.Bytes.{write_fields}
use Rattle.writer.specs.Orders.{change_of, changes_allowed, asked}
use Rattle.writer.proofs.Allowed.{ruled_changes, slice_spells, tested}
use Rattle.writer.proofs.requests.write_write_request.Goals as goal

pub returns : goal.returns
returns c =
    let cs = c.args.changes.now in
    let m = asked c.args.number (write_request (map change_of cs)) in
    let ok = c.changes_allowed.ensures in
    let e = tested c.changes_allowed.result (changes_allowed cs) m c.args.row.now ok (c.write.ensures m c.request-head.ensures (λ xs d a.
    slice_spells c.iter.result (λ x. write_fields (change_of x)) (λ x. x.index < 65536) cs c.changes_allowed.result m xs c.iter.ensures.rest d a (sym (flat_map-map write_fields change_of cs))
    (λ fit t. ruled_changes c.args.number cs c.ranges.number.fits fit (sym ok ∙ t)))) in
    record { told = e.told; row = e.row; back = e.back }
