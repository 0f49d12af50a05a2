use Rattle.std.proofs.Common.{◌≡◌, Some, w32, SFits, rules, arith}
use Rattle.std.proofs.lemmas.Int.{to_z-of_z}
use Rattle.arguments.specs.Parts.{three_of, star}
use Rattle.arguments.proofs.Cuts.{passed, no_bytes, no_ascension, no_declination, star_named}
use Rattle.arguments.proofs.parts.read_star.Goals as goal

pub returns-in_err-read_angle : goal.returns-in_err-read_angle
returns-in_err-read_angle c =
    let parts : three_of c.args.word.now ≡ Some (c.in_ok-name.name.now, c.in_ok-name.ascension.now, c.in_ok-name.declination.now) = grind arith in
    passed star _ _ _ c.from_residual-in_err-read_angle.ensures.1
    (λ _. no_ascension c.args.word.now parts c.in_err-read_angle.field-0.0 c.in_err-read_angle.ensures)

pub returns-in_err-read_angle-2 : goal.returns-in_err-read_angle-2
returns-in_err-read_angle-2 c =
    let parts : three_of c.args.word.now ≡ Some (c.in_ok-name.name.now, c.in_ok-name.ascension.now, c.in_ok-name.declination.now) = grind arith in
    passed star _ _ _ c.from_residual-in_err-read_angle-2.ensures.1
    (λ _. no_declination c.args.word.now parts c.in_err-read_angle-2.field-0.0 c.in_ok-read_angle.ensures c.in_err-read_angle-2.ensures)

pub returns-in_err-decode : goal.returns-in_err-decode
returns-in_err-decode c =
    let parts : three_of c.args.word.now ≡ Some (c.in_ok-name.name.now, c.in_ok-name.ascension.now, c.in_ok-name.declination.now) = grind arith in
    passed star _ _ _ c.from_residual-in_err-decode.ensures.1
    (λ n. rw (star_named c.args.word.now parts c.in_ok-read_angle.ensures c.in_ok-read_angle-2.ensures, no_bytes _ _ c.in_err-decode.ensures.taken n))

pub returns : goal.returns
returns c =
    let parts : three_of c.args.word.now ≡ Some (c.in_ok-name.name.now, c.in_ok-name.ascension.now, c.in_ok-name.declination.now) = grind arith in
    let f : SFits w32 c.in_ok-read_angle.field-0 = search rules in
    let g : SFits w32 c.in_ok-read_angle-2.field-0 = search rules in
    simp to_z-of_z
    (rw (star_named c.args.word.now parts c.in_ok-read_angle.ensures c.in_ok-read_angle-2.ensures, c.in_ok-decode.ensures.taken))
