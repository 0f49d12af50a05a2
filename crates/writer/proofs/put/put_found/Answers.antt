use Rattle.std.proofs.Common.{[], ◌∷◌, codes, ap, ◌∙◌, arith}
use Rattle.std.proofs.lemmas.Fmt.{decimal_digit}
use Rattle.protocol.specs.Words.{kind_word}
use Rattle.writer.specs.Bytes.{colon}
use Rattle.writer.proofs.Drafts.{puts_as, puts_last, puts_more}
use Rattle.writer.proofs.put.put_found.Goals as goal

pub returns : goal.returns
returns c =
    let word = kind_word c.args.kind in
    let text = c.args.text.now in
    puts_more (codes "0") (word ∷ text ∷ []) (puts_as _ _ (ap colon (decimal_digit 0 (omega arith))) c.put_number.ensures)
    (puts_more word (text ∷ []) (puts_as _ _ (ap colon (c.as_bytes.ensures.value ∙ c.word.ensures)) c.put_field.ensures) (puts_last text c.put_field-2.ensures))
