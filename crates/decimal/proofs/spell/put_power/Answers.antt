use Rattle.std.proofs.Common.{◌≡◌, ◌+◌, ◌^◌, ◌<◌, length, ap, ◌∙◌, arith, rules}
use Rattle.std.proofs.lemmas.Fmt.{length-decimal-le}
use Rattle.std.proofs.lemmas.List.{length_push}
use Rattle.arrayvec.specs.ArrayString.{array_string_len}
use Rattle.decimal.proofs.spell.put_power.Goals as goal

pub push_str-requires-2 : goal.push_str-requires-2
push_str-requires-2 c =
    let b : c.unsigned_abs.result < 10 ^ 5 = search rules in
    let l = ap length c.format.ensures.text in
    let e : array_string_len c.push.new.self ≡ array_string_len c.args.text.now + 1 = ap length (c.push.ensures.ascii (omega arith)) ∙ length_push _ _ in
    (omega arith, omega (arith, l, length-decimal-le 5 c.unsigned_abs.result (omega arith) b (omega arith)))
