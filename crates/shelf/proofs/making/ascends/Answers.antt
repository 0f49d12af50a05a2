use Rattle.std.proofs.Common.{◌≡◌, true, false, ◌∙◌, rules, tests}
use Rattle.std.proofs.lemmas.Iterator.{YieldsList-from_slice, cases_from_all}
use Rattle.std.proofs.lemmas.List.Sorted.{answers_always}
use Rattle.shelf.specs.Entries.{lies}
use Rattle.shelf.proofs.Searches.{rises, ascends_as, ascends_not}
use Rattle.shelf.proofs.making.ascends.Goals as goal

pub returns-then-all : goal.returns-then-all
returns-then-all c =
    let sorted = c.is_sorted_by.ensures.cases rises (answers_always _ _ _ (λ f a r g called. search rules)) in
    ascends_as c.args.low c.args.high c.args.slots.now c.is_sorted_by.result
    (cases_from_all _ _ true (λ s. lies c.args.low c.args.high s ≡ true) (λ s. lies c.args.low c.args.high s ≡ false) c.if-all.ensures.ran (YieldsList-from_slice c.args.slots.now c.iter.ensures.rest) (λ x q k. search (rules, tests)) (λ x q k. search (rules, tests)))
    sorted

pub returns-else-all : goal.returns-else-all
returns-else-all c =
    c.if-all.false ∙ ascends_not c.args.low c.args.high c.args.slots.now
    (cases_from_all _ _ false (λ s. lies c.args.low c.args.high s ≡ true) (λ s. lies c.args.low c.args.high s ≡ false) c.if-all.ensures.ran (YieldsList-from_slice c.args.slots.now c.iter.ensures.rest) (λ x q k. search (rules, tests)) (λ x q k. search (rules, tests)))
