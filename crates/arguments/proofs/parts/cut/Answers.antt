use Rattle.std.proofs.Common.{◌≡◌, ◌≢◌, sym, rules, tests, arith}
use Rattle.std.proofs.lemmas.Iterator.{YieldsList-from_slice, IsFirst-from_position}
use Rattle.std.proofs.lemmas.Option.{MatchOption-at_some}
use Rattle.arguments.proofs.Cuts.{cut_some}
use Rattle.arguments.proofs.parts.cut.Goals as goal

pub returns : goal.returns
returns c =
    let mark = c.args.mark in
    let word = c.args.word.now in
    let first = IsFirst-from_position _ _ c.position.result (λ b. b ≡ mark) (λ b. b ≢ mark) c.position.ensures.ran (YieldsList-from_slice word cc) (λ x q k. search (rules, tests)) (λ x q k. search (rules, tests)) in
    let some = MatchOption-at_some _ _ c.in_ok-at.at c.in_ok-at.was first in
    sym (cut_some mark word c.in_ok-at.at some.0 (λ k l. some.2 k 0 (omega arith) l) (some.1 0))
