use Rattle.std.proofs.Common.{Some, None, ap, ◌∙◌, subst, sym, arith}
use Rattle.std.proofs.lemmas.Str.Pattern.{split_parts}
use Rattle.field.specs.Parts.{part_bytes, fields_in, Found}
use Rattle.field.proofs.Splits.{split_is, Ends, front_ends, behind_ends, progress}
use Rattle.field.proofs.fields.FieldsIterator.next.Goals as goal

pub returns-in-Some : goal.returns-in-Some
returns-in-Some c =
    let was = c.in_ok-rest.was in
    let rest = c.in_ok-rest.rest in
    let bs = rest.text.now in
    let text = c.in-Some.text.now in
    let behind = c.in-Some.behind.now in
    let told = c.in-Some.ensures.cases in
    let e = ap fields_in was ∙ split_is bs (Some (c.in-Some.text, c.in-Some.behind)) told in
    let parts = (split_parts 58 bs (Some (c.in-Some.text, c.in-Some.behind)) told (omega arith)).0 in
    record {
      steps = (
        e,
        λ packet h. subst (λ k. Ends packet k text) (sym c.saturating_sub-end.ensures) (front_ends packet bs text behind rest.end parts (subst (Found packet) was h)),
        λ packet h. behind_ends packet bs text behind rest.end parts (subst (Found packet) was h),
      );
      goes = progress part_bytes _ _ (Some _) _ e;
    }

pub returns-in-None : goal.returns-in-None
returns-in-None c =
    let was = c.in_ok-rest.was in
    let bs = c.in_ok-rest.rest.text.now in
    let e = ap fields_in was ∙ split_is bs None c.in-None.ensures.cases in
    record { steps = (e, λ packet h. subst (Found packet) was h, λ packet h. tt); goes = progress part_bytes _ _ (Some _) _ e }
