use Rattle.std.proofs.Common.{map, vec_items, ◌∙◌, arith}
use Rattle.std.proofs.lemmas.List.Elements.{All-push}
use Rattle.store.specs.Runs.{answered, BearsFault}
use Rattle.store.proofs.Remembering.{answers_more, after_more, answers_all, after_all, remembers_as}
use Rattle.store.proofs.runs.run.Goals as goal

pub loop-step-preserved : goal.loop-step-preserved
loop-step-preserved g c =
    let m = g.S.Store.meaning c.loop-step.store in
    let n = g.S.Store.meaning c.perform.new.store in
    let xs = c.args.steps.now in
    let k = c.loop-step.step-index in
    let x = c.step-item.result in (
      answers_more m n (vec_items c.loop-step.answers) (vec_items c.push_reserved.new.self) xs k x c.perform.result c.loop-step-test.true c.step-item.is c.perform.ensures.answer c.perform.ensures.after c.push_reserved.ensures.items
          ∙ c.loop-step.invariant.0,
      after_more m n xs k x c.loop-step-test.true c.step-item.is c.perform.ensures.after ∙ c.loop-step.invariant.1,
      omega arith,
      rw c.push_reserved.ensures.items (All-push BearsFault (vec_items c.loop-step.answers) c.perform.result c.loop-step.invariant.3 c.perform.ensures.fault),
      omega arith,
    )

pub returns : goal.returns
returns g c =
    let start = g.S.Store.meaning c.args.store.now in
    let end = g.S.Store.meaning c.loop-step.store in
    let xs = c.args.steps.now in
    let k = c.loop-step.step-index in
    let p = answers_all end start (map answered (vec_items c.loop-step.answers)) xs k c.loop-step-test.false c.loop-step.invariant.0 in
    let q = after_all end start xs k c.loop-step-test.false c.loop-step.invariant.1 in
    record { answers = p; after = q; remembers = remembers_as start end xs (map answered (vec_items c.loop-step.answers)) p q; faults = c.loop-step.invariant.3 }
