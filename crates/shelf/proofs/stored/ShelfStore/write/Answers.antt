use Rattle.std.proofs.Common.{◌≡◌, true, false, Some, vec_items, sym, ap, ◌∙◌, rules}
use Rattle.store.specs.Contents.{typed, inside, barred}
use Rattle.store.specs.Writings.{write_done}
use denote.Enum.Bare.{differs_false}
use Rattle.protocol.specs.contracts.kind.Kind.{the_type}
use Rattle.shelf.specs.Entries.{element_of}
use Rattle.shelf.specs.Shelves.{shelf}
use Rattle.shelf.specs.Places.{Place}
use Rattle.shelf.specs.Rows.{row_written}
use Rattle.shelf.proofs.Searches.{not_barred}
use Rattle.shelf.proofs.stored.ShelfStore.write.Goals as goal

pub invariant_of-self : goal.invariant_of-self
invariant_of-self c =
    let s = c.args.self.now in
    let p : Place (vec_items s.slots) c.args.index c.in-Some.place = search rules in
    record { narrow = s.narrow; rule = (row_written s.low s.high (vec_items s.slots) c.in-Some.place c.args.index c.new-slot.result (typed c.args.value) s.rule p c.new-slot.ensures).rule }

pub returns : goal.returns
returns c =
    let s = c.args.self.now in
    let i = c.args.index in
    let t = typed c.args.value in
    let p : Place (vec_items s.slots) i c.in-Some.place = search rules in
    let e = element_of c.index-held.result.now in
    let within : inside (shelf s) i ≡ true = search rules in
    let held : (shelf s).element i ≡ Some e = search rules in
    let same : c.index-held.result.now.kind ≡ c.new-slot.result.kind = differs_false the_type (search rules) _ _ (sym c.if-ne.ensures) in
    let kind : c.new-slot.result.kind ≡ t.kind = ap (λ x. x.element.kind) c.new-slot.ensures in
    let taken : barred e t.kind ≡ false = not_barred e t.kind c.if-held.false (same ∙ kind) in
    let w = sym (write_done (shelf s) i t e within held taken) in
    let r = row_written s.low s.high (vec_items s.slots) c.in-Some.place i c.new-slot.result t s.rule p c.new-slot.ensures in
    record { code = ap (λ x. x.code) w; after = r.means ∙ ap (λ x. x.after) w }
