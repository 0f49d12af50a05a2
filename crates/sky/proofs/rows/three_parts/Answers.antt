use Rattle.std.proofs.Common.{rules, tests}
use Rattle.sky.proofs.Commas.{one_part, two_parts, more_parts, three_parts}
use Rattle.sky.proofs.rows.three_parts.Goals as goal

pub returns-in_err-ascension : goal.returns-in_err-ascension
returns-in_err-ascension c =
    let r = c.split-parts.ensures in
    rw c.from_residual-in_err-ascension.ensures (one_part _ _ c.split-parts.result c.args.line.now c.next.new.self c.next-2.new.self c.in_ok-name.name r.rest r.done r.closure c.in_ok-name.ensures.steps c.in_err-ascension.ensures.steps (λ x r q k. search (rules, tests)))

pub returns-in_err-declination : goal.returns-in_err-declination
returns-in_err-declination c =
    let r = c.split-parts.ensures in
    rw c.from_residual-in_err-declination.ensures (two_parts _ _ c.split-parts.result c.args.line.now c.next.new.self c.next-2.new.self c.next-3.new.self c.in_ok-name.name c.in_ok-ascension.ascension r.rest r.done r.closure c.in_ok-name.ensures.steps c.in_ok-ascension.ensures.steps c.in_err-declination.ensures.steps (λ x r q k. search (rules, tests)))

pub returns-in-None : goal.returns-in-None
returns-in-None c =
    let r = c.split-parts.ensures in
    three_parts _ _ c.split-parts.result c.args.line.now c.next.new.self c.next-2.new.self c.next-3.new.self c.next-4.new.self c.in_ok-name.name c.in_ok-ascension.ascension c.in_ok-declination.declination r.rest r.done r.closure c.in_ok-name.ensures.steps c.in_ok-ascension.ensures.steps c.in_ok-declination.ensures.steps c.in-None.ensures.steps (λ x r q k. search (rules, tests))

pub returns-in-Some : goal.returns-in-Some
returns-in-Some c =
    let r = c.split-parts.ensures in
    more_parts _ _ c.split-parts.result c.args.line.now c.next.new.self c.next-2.new.self c.next-3.new.self c.next-4.new.self c.in_ok-name.name c.in_ok-ascension.ascension c.in_ok-declination.declination c.in-Some.field-0 r.rest r.done r.closure c.in_ok-name.ensures.steps c.in_ok-ascension.ensures.steps c.in_ok-declination.ensures.steps c.in-Some.ensures.steps (λ x r q k. search (rules, tests))
