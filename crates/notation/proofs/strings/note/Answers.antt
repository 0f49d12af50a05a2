use Rattle.std.proofs.Common.{◌≡◌, take, ◌∙◌, ap, subst, sym, arith}
use Rattle.std.specs.List.{flat_map}
use Rattle.std.specs.Str.{IsAscii}
use Rattle.std.proofs.lemmas.List.{take_all}
use Rattle.notation.specs.Strings.{noted_byte}
use Rattle.notation.proofs.Parts.{noted_ascii}
use Rattle.notation.proofs.strings.note.Goals as goal

pub text-requires : goal.text-requires
text-requires c =
    let bytes = c.args.bytes.now in
    let all : take c.loop-b.b-index bytes ≡ bytes = take_all c.loop-b.b-index bytes (omega arith) in
    subst IsAscii (sym (c.loop-b.invariant.noted ∙ ap (flat_map noted_byte) all)) (noted_ascii bytes (λ k l. (c.type_inv.bytes k).fits))
