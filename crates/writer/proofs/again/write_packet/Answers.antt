use Rattle.std.proofs.Common.{◌≡◌, ◌<◌, ◌⊎◌, inl, inr, None, Some, true, [], ◌∷◌, map, sym, ap, ◌∙◌}
use Rattle.std.specs.List.{flat_map}
use Rattle.packet.specs.Cursors.{write_of, reading_part, indices_ahead, writes_ahead, codes_ahead, readings_ahead}
use Rattle.packet.specs.declared.groups.Groups.{Groups}
use Rattle.packet.specs.declared.packet.Body.{Body}
use Rattle.packet.specs.declared.packet.Body.TheVariants.{ReadAnswer, DiscoveryAnswer}
use Rattle.packet.specs.declared.readings.ReadingGroup.{ReadingGroup}
use Rattle.packet.specs.Packets.{content_of, message_of}
use Rattle.writer.specs.Again.{again, again_content, again_readout}
use Rattle.writer.specs.Bytes.{content_fields, index_fields, write_fields, code_fields, readout_fields}
use Rattle.writer.proofs.Allowed.{discovery_fields, slice_spells}
use Rattle.writer.proofs.Respelling.{head_again, cursor_spells, readings_spell}
use Rattle.writer.proofs.again.write_packet.Goals as goal
use Rattle.writer.proofs.again.write_packet.Goals.{in-ReadAnswer, in-ReadAnswer-2}

pub returns-in-ReadRequest : goal.returns-in-ReadRequest
returns-in-ReadRequest c ruled =
    let m = message_of c.args.packet in
    let same = ap (λ b. content_fields (again_content (content_of b))) (sym c.in-ReadRequest.is) in
    c.write.ensures (again m) (head_again m c.direction.result c.command.result c.direction.ensures c.command.ensures)
    (λ xs d _. cursor_spells (λ x. x) (λ _. None) indices_ahead c.in-ReadRequest.indices index_fields (again m) xs d same ruled)

pub returns-in-WriteRequest : goal.returns-in-WriteRequest
returns-in-WriteRequest c ruled =
    let m = message_of c.args.packet in
    let same = ap (λ b. content_fields (again_content (content_of b))) (sym c.in-WriteRequest.is) in
    c.write-in-WriteRequest.ensures (again m) (head_again m c.direction.result c.command.result c.direction.ensures c.command.ensures)
    (λ xs d _. cursor_spells write_of (λ w. Some w.text) writes_ahead c.in-WriteRequest.writes write_fields (again m) xs d same ruled)

pub returns-in-DiscoveryRequest : goal.returns-in-DiscoveryRequest
returns-in-DiscoveryRequest c ruled =
    let m = message_of c.args.packet in
    let same = ap (λ b. content_fields (again_content (content_of b))) (sym c.in-DiscoveryRequest.is) in
    c.write-in-DiscoveryRequest.ensures (again m) (head_again m c.direction.result c.command.result c.direction.ensures c.command.ensures)
    (λ xs d a. slice_spells c.iter.result index_fields (λ i. i < 65536) (2 ∷ 3 ∷ []) true (again m) xs c.iter.ensures.rest d a (discovery_fields ∙ same) (λ _ _. ruled))

pub returns-in-WriteAnswer : goal.returns-in-WriteAnswer
returns-in-WriteAnswer c ruled =
    let m = message_of c.args.packet in
    let same = ap (λ b. content_fields (again_content (content_of b))) (sym c.in-WriteAnswer.is) in
    c.write-in-WriteAnswer.ensures (again m) (head_again m c.direction.result c.command.result c.direction.ensures c.command.ensures)
    (λ xs d _. cursor_spells (λ x. x) (λ _. None) codes_ahead c.in-WriteAnswer.codes code_fields (again m) xs d same ruled)

-- a read or a Discovery answer
answer_same : (body : Body) (r : Groups ReadingGroup) → (body ≡ ReadAnswer r) ⊎ (body ≡ DiscoveryAnswer r) → flat_map readout_fields (map again_readout (readings_ahead r)) ≡ content_fields (again_content (content_of body))
answer_same body r (inl e) = ap (λ b. content_fields (again_content (content_of b))) (sym e)
answer_same body r (inr e) = ap (λ b. content_fields (again_content (content_of b))) (sym e)

pub returns-in-ReadAnswer : goal.returns-in-ReadAnswer
returns-in-ReadAnswer c ruled =
    let m = message_of c.args.packet in
    let readings = c.in-ReadAnswer-1.readings in
    let same : flat_map readout_fields (map again_readout (readings_ahead readings)) ≡ content_fields (again_content (content_of c.args.packet.body)) = elim c.in-ReadAnswer-1.branch [
      | in-ReadAnswer w ↦ rw w.readings-is (answer_same c.args.packet.body w.in-ReadAnswer.readings w.in-ReadAnswer.is)
      | in-ReadAnswer-2 w ↦ rw w.readings-is (answer_same c.args.packet.body w.in-ReadAnswer.readings w.in-ReadAnswer.is)
    ] in
    c.write-in-ReadAnswer.ensures (again m) (head_again m c.direction.result c.command.result c.direction.ensures c.command.ensures)
    (λ xs d _. readings_spell reading_part readings_ahead readings (again m) xs d same ruled)
