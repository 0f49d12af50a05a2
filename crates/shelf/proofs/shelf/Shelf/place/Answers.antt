use Rattle.std.proofs.Common.{rules, vec_items}
use Rattle.std.proofs.lemmas.List.Sorted.{answers_always}
use Rattle.shelf.specs.Rows.{rule}
use Rattle.shelf.specs.Shelves.{entries}
use Rattle.shelf.proofs.Searches.{searched}
use Rattle.shelf.proofs.shelf.Shelf.place.Goals as goal

pub returns : goal.returns
returns c =
    let s = c.args.self.now in
    let facts = c.binary_search_by_key.ensures in
    let by_key = facts.position (λ slot. slot.index) (answers_always _ _ _ (λ f a r g called. search rules)) in
    let r = rule s.low s.high (entries s) s.rule in
    let h = searched s.low s.high (vec_items s.slots) r.ascends c.args.index c.binary_search_by_key.result (rw c.deref.ensures.value at facts.bound) (rw c.deref.ensures.value at by_key) in
    rw c.ok.ensures.value h
