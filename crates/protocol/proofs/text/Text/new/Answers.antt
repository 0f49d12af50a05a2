use Rattle.std.proofs.Common.{◌≡◌, true, length, Some, sym, ap, ◌∙◌, subst, IsUtf8, rules}
use Rattle.std.proofs.lemmas.List.{take_at}
use Rattle.std.proofs.lemmas.Bool.{cond-true}
use Rattle.protocol.specs.Texts.{textual}
use Rattle.protocol.proofs.PlainText.{few, textual_from}
use Rattle.protocol.proofs.text.Text.new.Goals as goal

pub invariant_of-result : goal.invariant_of-result
invariant_of-result c =
    let bytes = c.args.bytes.now in
    let u : IsUtf8 bytes = search rules in
    let t : textual bytes ≡ true = textual_from bytes (sym c.if-not-is_sized.ensures) (sym c.if-not-is_free.ensures) u in
    let e = c.copy_from_slice.ensures.after in
    record { short = few bytes t; plain = subst (λ bs. textual bs ≡ true) (sym (take_at _ _ (length bytes) (ap length e) ∙ e)) t }

pub returns : goal.returns
returns c =
    let bytes = c.args.bytes.now in
    let u : IsUtf8 bytes = search rules in
    let t : textual bytes ≡ true = textual_from bytes (sym c.if-not-is_sized.ensures) (sym c.if-not-is_free.ensures) u in
    let e = c.copy_from_slice.ensures.after in
    ap Some (take_at _ _ (length bytes) (ap length e) ∙ e) ∙ sym (cond-true _ _ _ t)
