use Rattle.std.proofs.lemmas.Str.{IsUtf8-from_ascii}
use Rattle.std.proofs.lemmas.Fmt.{IsAscii-from_digits}
use Rattle.protocol.proofs.Digits.{own}
use Rattle.decimal.proofs.Readings.{told_ok}
use Rattle.decimal.proofs.digits.Digits.as_str.Goals as goal

pub unwrap-requires : goal.unwrap-requires
unwrap-requires c =
    let ds = c.args.self.bytes.now in
    told_ok _ _ _ c.from_utf8.ensures.cases (λ e k. k.0 (IsUtf8-from_ascii ds (IsAscii-from_digits ds (own.to ds c.args.self.digits))))
