use Rattle.std.proofs.Common.{refl}
use Rattle.std.proofs.lemmas.Result.{MatchResult-weaker}
use Rattle.field.specs.Parts.{fields_left}
use Rattle.packet.proofs.Steps.{turn, reading_from, on_ok}
use Rattle.packet.proofs.readings.ReadingGroupGroup.read.Goals as goal

pub returns : goal.returns
returns c =
    let all = fields_left c.args.fields.now in
    let v = c.next-code.ensures.steps in
    let w = c.next-word.ensures.steps in
    let t = c.next-text.ensures.steps in
    let p = turn all 0 _ _ _ refl v in
    let q = turn all 1 _ _ _ p.1 w in
    let r = turn all 2 _ _ _ q.1 t in
    let told = c.reading_by.ensures in
    record {
      group = reading_from all _ _ _ told.group p.0 q.0 r.0;
      bound = told.bound;
      after = on_ok c.reading_by.result r.1;
      place = MatchResult-weaker c.reading_by.result told.place (λ x h packet within. h packet (t.1 packet (w.2 packet (v.2 packet within)))) (λ _ u. u);
      onward = λ packet within. t.2 packet (w.2 packet (v.2 packet within));
    }
