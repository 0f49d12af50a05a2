use Rattle.std.proofs.Common.{◌≡◌, ℕ, ◌+◌, cond, get_or, drop, is_some, sym, arith}
use Rattle.std.proofs.lemmas.List.{at_drop_more, at_drop_all}
use Rattle.std.proofs.lemmas.Bool.{cond-true, cond-false}
use Rattle.catalogue.specs.Stations.{waiting_in, newcomer}
use Rattle.catalogue.proofs.partners.count_waiting.Goals as goal
use Rattle.catalogue.proofs.partners.count_waiting.Goals.{then-is_some, else-is_some}

pub loop-partner-preserved : goal.loop-partner-preserved
loop-partner-preserved c =
    let ps = c.args.partners.now in
    let i = c.loop-partner.partner-index in
    let e : waiting_in (drop i ps) ≡ cond (is_some (get_or ps i (newcomer 0)).waiting) 1 0 + waiting_in (drop (i + 1) ps) = at_drop_more waiting_in ps i (newcomer 0) c.loop-partner-test.true in
    elim c.if-is_some.branch [
      | then-is_some w ↦ let t : ◌≡◌ {A = ℕ} (cond (is_some (get_or ps i (newcomer 0)).waiting) 1 0) 1 = cond-true _ 1 0 (sym w.if-is_some.ensures) in (omega (arith, w.count-is), omega (arith, w.count-is))
      | else-is_some w ↦ let t : ◌≡◌ {A = ℕ} (cond (is_some (get_or ps i (newcomer 0)).waiting) 1 0) 0 = cond-false _ 1 0 (sym w.if-is_some.ensures) in (omega (arith, w.count-is), omega (arith, w.count-is))
    ]

pub returns : goal.returns
returns c =
    let e : waiting_in (drop c.loop-partner.partner-index c.args.partners.now) ≡ 0 = at_drop_all waiting_in _ _ c.loop-partner-test.false in
    omega arith
