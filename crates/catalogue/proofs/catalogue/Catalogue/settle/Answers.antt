use Rattle.std.proofs.Common.{◌≡◌, Some, None, sym, refl, ap, ◌∙◌, arith, rules}
use Rattle.std.proofs.lemmas.Bool.{cond-true, cond-false}
use Rattle.std.specs.List.{position}
use Rattle.field.specs.declared.words.Direction.TheVariants.{Request}
use Rattle.packet.specs.Messages.{direction_of}
use Rattle.packet.specs.Packets.{message_of}
use Rattle.catalogue.specs.Stations.{freed, at_address}
use Rattle.catalogue.specs.Opening.{partner}
use Rattle.catalogue.specs.Receiving.{agrees, by_content, count_answered}
use Rattle.catalogue.specs.Views.{station_of}
use Rattle.catalogue.proofs.Addresses.{from_nobody, from_found}
use Rattle.catalogue.proofs.Keeps.{small, rewritten_is, sound_settled}
use Rattle.catalogue.proofs.catalogue.Catalogue.settle.Goals as goal

pub overflow_add-self : goal.overflow_add-self
overflow_add-self c = let n = small (station_of c.self.inside) c.self.invariant in omega arith

pub returns-in_err-k : goal.returns-in_err-k
returns-in_err-k c =
    let s = c.args.self.now in
    let m = message_of c.args.answer.now in
    let asks : direction_of m.content ≡ Request → ⊥ = search rules in
    let n : None ≡ position (at_address c.args.sender) s.partners = search rules in
    let e = from_nobody s c.args.sender m m.content asks n in
    record { answer = search rules; after = sym (ap (λ x. x.after) e); refused = search rules; sound = search rules }

pub returns-in_err-waiting : goal.returns-in_err-waiting
returns-in_err-waiting c =
    let s = c.args.self.now in
    let m = message_of c.args.answer.now in
    let asks : direction_of m.content ≡ Request → ⊥ = search rules in
    let n : Some c.in_ok-k.k ≡ position (at_address c.args.sender) s.partners = search rules in
    let w : (partner s c.in_ok-k.k).waiting ≡ None = search rules in
    let e = from_found s c.args.sender m m.content asks c.in_ok-k.k n None w in
    record { answer = search rules; after = sym (ap (λ x. x.after) e); refused = search rules; sound = search rules }

pub returns-then-not-agrees : goal.returns-then-not-agrees
returns-then-not-agrees c =
    let s = c.args.self.now in
    let m = message_of c.args.answer.now in
    let asks : direction_of m.content ≡ Request → ⊥ = search rules in
    let n : Some c.in_ok-k.k ≡ position (at_address c.args.sender) s.partners = search rules in
    let w : (partner s c.in_ok-k.k).waiting ≡ Some c.in_ok-waiting.waiting = search rules in
    let e =
    from_found s c.args.sender m m.content asks c.in_ok-k.k n (Some c.in_ok-waiting.waiting) w
    ∙ cond-false (agrees c.in_ok-waiting.waiting m) _ _ (sym c.agrees.ensures ∙ c.if-not-agrees.true) in
    record { answer = sym (ap (λ x. x.answer) e); after = sym (ap (λ x. x.after) e); refused = refl; sound = tt }

pub invariant_of-self : goal.invariant_of-self
invariant_of-self c =
    let s = station_of c.self.inside in
    rw c.deref_mut.ensures.value (sound_settled s c.in_ok-k.k c.self.invariant (search rules) c.in_ok-waiting.waiting (search rules) (count_answered s.counts) refl refl (omega arith))

pub returns : goal.returns
returns c =
    let s = station_of c.self.inside in
    let k = c.in_ok-k.k in
    let w = c.in_ok-waiting.waiting in
    let m = message_of c.args.answer.now in
    let asks : direction_of m.content ≡ Request → ⊥ = search rules in
    let n : Some k ≡ position (at_address c.args.sender) s.partners = search rules in
    let waits : (partner s k).waiting ≡ Some w = search rules in
    let e =
    ap (λ t. by_content t c.args.sender m m.content) (sym c.self.view_is) ∙ from_found s c.args.sender m m.content asks k n (Some w) waits
    ∙ cond-true (agrees w m) _ _ (sym c.agrees.ensures ∙ c.if-not-agrees.false) in
    record {
      answer = sym (ap (λ x. x.answer) e);
      after = rw c.deref_mut.ensures.value (rewritten_is s k (freed (partner s k)) s.clock (count_answered s.counts) ∙ sym (ap (λ x. x.after) e));
      refused = tt;
      sound = rw c.deref_mut.ensures.value (sound_settled s k c.self.invariant (search rules) w (search rules) (count_answered s.counts) refl refl (omega arith));
    }
