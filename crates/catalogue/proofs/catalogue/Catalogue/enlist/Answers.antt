use Rattle.std.proofs.Common.{◌≡◌, ◌<◌, true, false, [], ◌∷◌, ◌++◌, length, is_some, Ok, sym, refl, ap, ◌∙◌, subst, rules}
use Rattle.std.specs.List.{position}
use Rattle.catalogue.specs.Stations.{newcomer, at_address, enlisting}
use Rattle.catalogue.specs.Kept.{Sound}
use Rattle.catalogue.specs.Views.{station_of}
use Rattle.catalogue.proofs.Addresses.{enlisted_already, enlisted_newly}
use Rattle.catalogue.proofs.Keeps.{sound_enlisted}
use Rattle.catalogue.proofs.catalogue.Catalogue.enlist.Goals as goal

pub returns-then-is_some : goal.returns-then-is_some
returns-then-is_some c =
    let s = c.args.self.now in
    let h : is_some (position (at_address c.args.address) s.partners) ≡ true = search rules in
    let e = enlisted_already s c.args.address h in
    record { answer = sym (ap (λ x. x.answer) e); after = sym (ap (λ x. x.after) e); counts = refl; sound = c.partner_at.ensures.sound }

pub invariant_of-self-2 : goal.invariant_of-self-2
invariant_of-self-2 c =
    let s = station_of c.self.inside in
    let room : length s.partners < 16 = search rules in
    let e : c.try_push.new.self.items ≡ s.partners ++ (newcomer c.args.address ∷ []) = search rules in
    subst (λ ps. Sound (record { timing = s.timing; clock = s.clock; partners = ps; counts = s.counts })) (sym e) (sound_enlisted s c.args.address c.self.invariant room)

pub returns : goal.returns
returns c =
    let s = station_of c.self.inside in
    let h : is_some (position (at_address c.args.address) s.partners) ≡ false = search rules in
    let room : length s.partners < 16 = search rules in
    let p : c.try_push.new.self.items ≡ s.partners ++ (newcomer c.args.address ∷ []) = search rules in
    let e = ap (λ t. enlisting t c.args.address) (sym c.self.view_is) ∙ enlisted_newly s c.args.address h room in
    record {
      answer = ap Ok c.len-k.ensures.value ∙ sym (ap (λ x. x.answer) e);
      after = ap (λ ps. record { timing = s.timing; clock = s.clock; partners = ps; counts = s.counts }) p ∙ sym (ap (λ x. x.after) e);
      counts = search rules;
      sound = subst (λ ps. Sound (record { timing = s.timing; clock = s.clock; partners = ps; counts = s.counts })) (sym p) (sound_enlisted s c.args.address c.self.invariant room);
    }
