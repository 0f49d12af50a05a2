use Rattle.std.proofs.Common.{◌<◌, sym, refl, ◌∙◌}
use Rattle.packet.specs.Messages.{read_request}
use Rattle.writer.specs.Bytes.{index_fields}
use Rattle.writer.specs.Orders.{counted, asked}
use Rattle.writer.proofs.Allowed.{ruled_indices, slice_spells, tested}
use Rattle.writer.proofs.requests.write_read_request.Goals as goal

pub returns : goal.returns
returns c =
    let is = c.args.indices.now in
    let m = asked c.args.number (read_request is) in
    let ok = c.indices_allowed.ensures in
    let e = tested c.indices_allowed.result (counted is) m c.args.row.now ok (c.write.ensures m c.request-head.ensures (λ xs d a.
    slice_spells c.iter.result index_fields (λ i. i < 65536) is c.indices_allowed.result m xs c.iter.ensures.rest d a refl (λ fit t. ruled_indices c.args.number is c.ranges.number.fits fit (sym ok ∙ t)))) in
    record { told = e.told; row = e.row; back = e.back }
