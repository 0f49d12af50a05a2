use Rattle.std.proofs.Common.{Some, sym, ap, ◌≡◌, ◌∙◌, arith}
use Rattle.std.specs.Option.{option_map}
use Rattle.std.proofs.lemmas.Result.{MatchResult-at_ok}
use Rattle.field.proofs.Braces.{fields_there, no_text}
use Rattle.field.proofs.Results.{ok_of}
use Rattle.field.proofs.frame.fields_of.Goals as goal

pub returns-in_err-text-clause-fields : goal.returns-in_err-text-clause-fields
returns-in_err-text-clause-fields c =
    let b : c.inside_of.result ≡ Some c.in_ok-body.body = grind arith in
    let e = sym (ap (option_map (λ x. x.now)) b) ∙ c.inside_of.ensures in
    let k = no_text c.args.packet.now c.in_ok-body.body.now c.if-packet-gt512.false e in
    let t = c.from_utf8.ensures.cases in
    let u = c.in_err-text.ensures.cases in
    let v = c.from_residual-in_err-text.ensures in
    grind (arith, k)

pub returns-clause-fields : goal.returns-clause-fields
returns-clause-fields c =
    let b : c.inside_of.result ≡ Some c.in_ok-body.body = grind arith in
    let e = sym (ap (option_map (λ x. x.now)) b) ∙ c.inside_of.ensures in
    let k = fields_there c.args.packet.now c.in_ok-body.body.now c.if-packet-gt512.false e c.in_ok-text.text.now in
    let t = c.from_utf8.ensures.cases in
    let u = c.in_ok-text.ensures.cases in
    let same = MatchResult-at_ok _ _ c.in_ok-text.text (ok_of _ _ c.from_utf8.result c.in_ok-text.text u c.in_ok-text.ensures.variant) t in
    sym (k same.0 same.1)
