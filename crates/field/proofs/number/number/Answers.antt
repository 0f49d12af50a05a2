use Rattle.std.proofs.Common.{◌≡◌, ◌≤◌, length, get_or, rules, arith}
use Rattle.field.proofs.Digits.{parse_is}
use Rattle.field.proofs.number.number.Goals as goal
use Rattle.field.proofs.number.number.Goals.{in_default-via-then-as_bytes-lt1, in_default-via-else-as_bytes-lt1+then-this-lt2+in_default-1, in_default-via-else-as_bytes-lt1+else-this-lt2+in_default-1}

pub returns-in_default-clause-value : goal.returns-in_default-clause-value
returns-in_default-clause-value c =
    let same = c.as_bytes.ensures.value in
    let plus : get_or c.args.text.now 0 0 ≡ 43 → ⊥ =
    elim c.in_default.branch [
      | in_default-via-then-as_bytes-lt1 w ↦ search rules
      | in_default-via-else-as_bytes-lt1+then-this-lt2+in_default-1 w ↦ search rules
      | in_default-via-else-as_bytes-lt1+else-this-lt2+in_default-1 w ↦ search rules
    ]
    in
    let lead : get_or c.args.text.now 0 0 ≡ 48 → length c.args.text.now ≤ 1 =
    elim c.in_default.branch [
      | in_default-via-then-as_bytes-lt1 w ↦ search rules
      | in_default-via-else-as_bytes-lt1+then-this-lt2+in_default-1 w ↦ search rules
      | in_default-via-else-as_bytes-lt1+else-this-lt2+in_default-1 w ↦ search rules
    ]
    in
    let p = parse_is c.args.top c.args.text.now c.parse.result c.parse.ensures.value.0 plus lead c.ranges.top.fits in
    let o = c.ok.ensures.value in
    let f = c.filter.ensures in
    grind arith
