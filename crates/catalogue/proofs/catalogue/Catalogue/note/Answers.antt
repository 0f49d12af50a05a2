use Rattle.std.proofs.Common.{sym, subst, arith, rules}
use Rattle.catalogue.specs.Judging.{Free}
use Rattle.catalogue.specs.Views.{station_of}
use Rattle.catalogue.proofs.Keeps.{small, sound_opened}
use Rattle.catalogue.proofs.catalogue.Catalogue.note.Goals as goal

pub overflow_add-self : goal.overflow_add-self
overflow_add-self c = let n = small (station_of c.self.inside) c.self.invariant in omega arith

pub invariant_of-self : goal.invariant_of-self
invariant_of-self c =
    let s = station_of c.self.inside in
    let f = subst (λ s. Free s c.args.k c.args.time) (sym c.self.view_is) c.requires.free in
    rw c.deref_mut.ensures.value (sound_opened s c.args.k c.args.time c.self.invariant f c.args.waiting (search rules) c.requires.repeats)

pub returns-clause-sound : goal.returns-clause-sound
returns-clause-sound c =
    let s = station_of c.self.inside in
    let f = subst (λ s. Free s c.args.k c.args.time) (sym c.self.view_is) c.requires.free in
    rw c.deref_mut.ensures.value (sound_opened s c.args.k c.args.time c.self.invariant f c.args.waiting (search rules) c.requires.repeats)
