use Rattle.std.proofs.Common.{[], unwrap_or, ap, ◌∙◌}
use Rattle.std.specs.Option.{option_map}
use Rattle.std.specs.List.{flat_map}
use Rattle.value.specs.Values.{value_read, spelled}
use Rattle.packet.specs.Groups.{found}
use Rattle.writer.specs.Bytes.{colon, readout_fields}
use Rattle.writer.proofs.Drafts.{puts_as}
use Rattle.writer.proofs.put.FoundPut.put.Goals as goal

pub returns-in-Some-clause-puts : goal.returns-in-Some-clause-puts
returns-in-Some-clause-puts c =
    let kind = c.args.self.now.kind in
    let told = c.in-Some.ensures in
    let read = told.value ∙ ap (value_read kind) c.as_bytes.ensures.value in
    puts_as _ _ (λ i. flat_map colon (readout_fields (found (told.kind i) (unwrap_or (option_map spelled (read i)) [])))) c.put.ensures.puts

pub returns-in-None-clause-puts : goal.returns-in-None-clause-puts
returns-in-None-clause-puts c =
    let kind = c.args.self.now.kind in
    let read = c.in-None.ensures.value ∙ ap (value_read kind) c.as_bytes.ensures.value in
    puts_as _ _ (λ i. flat_map colon (readout_fields (found kind (unwrap_or (option_map spelled (read i)) [])))) c.put_found.ensures
