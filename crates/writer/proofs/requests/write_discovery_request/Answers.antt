use Rattle.std.proofs.Common.{◌<◌, true, [], ◌∷◌}
use Rattle.packet.specs.Messages.{discovery_request}
use Rattle.writer.specs.Bytes.{index_fields}
use Rattle.writer.specs.Orders.{asked}
use Rattle.writer.proofs.Allowed.{discovery_fields, ruled_discovery, slice_spells}
use Rattle.writer.proofs.requests.write_discovery_request.Goals as goal

pub returns : goal.returns
returns c =
    let m = asked 0 discovery_request in
    let e = c.write.ensures m c.request-head.ensures (λ xs d a.
    slice_spells c.iter.result index_fields (λ i. i < 65536) (2 ∷ 3 ∷ []) true m xs c.iter.ensures.rest d a discovery_fields (λ _ _. ruled_discovery)) in
    record { told = e.told; row = e.row; back = e.back }
