use Rattle.std.proofs.Common.{[], ◌∷◌, ◌++◌, decimal, ap, ◌∙◌}
use Rattle.std.specs.List.{flat_map}
use Rattle.field.specs.Words.{version_word, direction_word, command_number}
use Rattle.writer.specs.Bytes.{colon}
use Rattle.writer.proofs.Drafts.{puts_as, puts_both, puts_last, puts_more}
use Rattle.writer.proofs.draft.Draft.put_head.Goals as goal

pub returns : goal.returns
returns c =
    let head = c.args.head in
    let v = version_word head.version in
    let d = direction_word head.direction in
    let n = decimal head.number in
    let m = decimal (command_number head.command) in
    let version = puts_as c.as_bytes.result.now v (c.as_bytes.ensures.value ∙ c.word.ensures) c.put-2.ensures in
    let direction = puts_as (colon c.as_bytes-2.result.now) (colon d) (ap colon (c.as_bytes-2.ensures.value ∙ c.word-2.ensures)) c.put_field.ensures in
    let command = puts_as (colon (decimal c.from-2.result)) (colon m) (ap (λ k. colon (decimal k)) (c.from-2.ensures ∙ c.from.ensures)) c.put_number-2.ensures in
    puts_both (123 ∷ []) (v ++ flat_map colon (d ∷ n ∷ m ∷ [])) c.put.ensures
    (puts_both v (flat_map colon (d ∷ n ∷ m ∷ [])) version (puts_more d (n ∷ m ∷ []) direction (puts_more n (m ∷ []) c.put_number.ensures (puts_last m command))))
