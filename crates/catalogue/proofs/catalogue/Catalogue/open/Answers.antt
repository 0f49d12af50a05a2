use Rattle.std.proofs.Common.{◌≡◌, length, Ok, Err, sym, ap, ◌∙◌, rules}
use Rattle.catalogue.specs.Judging.{judged}
use Rattle.catalogue.proofs.Openings.{opening_refused, row_written}
use Rattle.catalogue.proofs.catalogue.Catalogue.open.Goals as goal

pub returns-in_err-number : goal.returns-in_err-number
returns-in_err-number g c =
    let a = c.args in
    let reason = c.in_err-number.field-0.0 in
    let j : judged a.self.now (length a.slab.now) a.partner a.time (g.O.Order.allowed a.order) ≡ Err reason = search rules in
    let r : c.from_residual.result ≡ Err reason = search rules in
    let e = opening_refused a.self.now a.slab.now a.partner a.time (g.O.Order.allowed a.order) (g.O.Order.content a.order) reason j in
    record {
      answer = r ∙ sym (ap (λ x. x.answer) e);
      after = sym (ap (λ x. x.after) e);
      slab = sym (ap (λ x. x.slab) e);
      counts = search rules;
      others = search rules;
      rest = search rules;
      back = search rules;
      sound = search rules;
    }

pub returns : goal.returns
returns g c =
    let a = c.args in
    let number = c.in_ok-number.number in
    let j : judged a.self.now (length a.slab.now) a.partner a.time (g.O.Order.allowed a.order) ≡ Ok number = search rules in
    let w = row_written a.self.now a.slab.now a.partner a.time (g.O.Order.allowed a.order) (g.O.Order.content a.order) number j (search rules) (search rules)
    c.in_ok-length.length c.write.new.row (search rules) c.write.ensures.row (search rules) in
    record { answer = search rules; after = search rules; slab = w.defined; counts = search rules; others = search rules; rest = w.outside; back = w.back; sound = search rules }
