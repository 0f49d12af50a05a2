use Rattle.std.proofs.Common.{refl, arith, rules}
use Rattle.catalogue.specs.Views.{station_of}
use Rattle.catalogue.specs.Withdrawing.{count_withdrawn}
use Rattle.catalogue.proofs.Keeps.{small, sound_settled}
use Rattle.catalogue.proofs.catalogue.Catalogue.withdraw.Goals as goal

pub overflow_add-self : goal.overflow_add-self
overflow_add-self c = let n = small (station_of c.self.inside) c.self.invariant in omega arith

pub invariant_of-self : goal.invariant_of-self
invariant_of-self c =
    let s = station_of c.self.inside in
    rw c.deref_mut.ensures.value (sound_settled s c.args.partner c.self.invariant (search rules) c.in_ok-waiting.waiting (search rules) (count_withdrawn s.counts) refl refl (omega arith))

pub returns-clause-sound : goal.returns-clause-sound
returns-clause-sound c =
    let s = station_of c.self.inside in
    rw c.deref_mut.ensures.value (sound_settled s c.args.partner c.self.invariant (search rules) c.in_ok-waiting.waiting (search rules) (count_withdrawn s.counts) refl refl (omega arith))
