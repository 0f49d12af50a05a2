use Rattle.std.proofs.Common.{refl, sym, ◌∙◌, arith, rules}
use Rattle.catalogue.specs.Views.{station_of}
use Rattle.catalogue.specs.Polling.{count_failed}
use Rattle.catalogue.proofs.Keeps.{small, sound_repeated, sound_settled}
use Rattle.catalogue.proofs.catalogue.Catalogue.poll_due.Goals as goal

pub overflow_add-self : goal.overflow_add-self
overflow_add-self c = let n = small (station_of c.self.inside) c.self.invariant in omega arith

pub invariant_of-self : goal.invariant_of-self
invariant_of-self c =
    let s = station_of c.self.inside in
    rw c.deref_mut.ensures.value (sound_settled s c.args.k c.self.invariant (search rules) c.args.waiting (search rules) (count_failed s.counts) refl refl (omega arith))

pub overflow_add-self-2 : goal.overflow_add-self-2
overflow_add-self-2 c = let n = small (station_of c.self.inside) c.self.invariant in omega arith

pub invariant_of-self-2 : goal.invariant_of-self-2
invariant_of-self-2 c =
    let s = station_of c.self.inside in
    rw (c.deref_mut-2.ensures.value, c.longer.ensures) (sound_repeated s c.args.k c.self.invariant (search rules) c.args.waiting (search rules) (sym c.is_spent.ensures ∙ c.if-is_spent.false))

pub returns-then-is_spent-clause-sound : goal.returns-then-is_spent-clause-sound
returns-then-is_spent-clause-sound c =
    let s = station_of c.self.inside in
    rw c.deref_mut.ensures.value (sound_settled s c.args.k c.self.invariant (search rules) c.args.waiting (search rules) (count_failed s.counts) refl refl (omega arith))

pub returns-clause-sound : goal.returns-clause-sound
returns-clause-sound c =
    let s = station_of c.self.inside in
    rw (c.deref_mut-2.ensures.value, c.longer.ensures) (sound_repeated s c.args.k c.self.invariant (search rules) c.args.waiting (search rules) (sym c.is_spent.ensures ∙ c.if-is_spent.false))
