use Rattle.std.proofs.Common.{◌≡◌, true, sym, subst}
use Rattle.std.proofs.lemmas.Int.{to_z-of_z}
use Rattle.protocol.specs.Texts.{textual}
use Rattle.value.proofs.Signs.{signed_textual}
use Rattle.value.proofs.whole.spell_whole.Goals as goal

pub text_of-requires : goal.text_of-requires
text_of-requires c =
    let f = c.ranges.n in
    let e = simp to_z-of_z at c.format.ensures.text in
    subst (λ bs. textual bs ≡ true) (sym e) (signed_textual c.args.n f)
