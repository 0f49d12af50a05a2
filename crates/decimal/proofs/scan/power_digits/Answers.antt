use Rattle.std.proofs.Common.{◌≡◌, ◌-◌, ◌<◌, length, take, pos, ◌≤ℤ◌, IfSome, inl, inr, sym, ap, ◌∙◌, subst, arith, w16}
use Rattle.std.specs.Option.{option_map}
use Rattle.std.specs.Str.Parse.{ParsesSigned}
use Rattle.std.proofs.lemmas.List.{length-drop, take_all}
use Rattle.std.proofs.lemmas.Bool.Decides.{nat_tests}
use Rattle.decimal.specs.Reading.{run_of, power_digits}
use Rattle.decimal.proofs.Readings.{all_run, run_le, power_unread, power_parsed, power_bound}
use Rattle.decimal.proofs.scan.power_digits.Goals as goal
use Rattle.decimal.proofs.scan.power_digits.Goals.{After-split, After-ok, then-not-is_empty-via-then-not-is_empty, then-not-is_empty-via-else-not-is_empty+then-text-gt3}

left : (c : goal.After-split) → length c.split.result.1.now ≡ length c.args.text.now - run_of c.args.text.now
left c = ap length c.split.ensures.rest ∙ length-drop (run_of c.args.text.now) c.args.text.now

pub returns-then-not-is_empty-clause-value : goal.returns-then-not-is_empty-clause-value
returns-then-not-is_empty-clause-value c =
    let l = left (goal.at.returns-then-not-is_empty-clause-value c).After-split in
    let ds = c.args.text.now in
    elim c.then-not-is_empty.branch [
      | then-not-is_empty-via-then-not-is_empty w ↦
          let b : run_of c.args.text.now < length c.args.text.now = grind (arith, nat_tests, w.if-not-is_empty.ensures) in
          sym (ap (option_map (λ n. pos n)) (power_unread ds (inl b)))
      | then-not-is_empty-via-else-not-is_empty+then-text-gt3 w ↦ sym (ap (option_map (λ n. pos n)) (power_unread ds (inr (omega arith))))
    ]

valued : (c : goal.After-ok) → length c.split.result.1.now ≡ length c.args.text.now - run_of c.args.text.now → c.ok.result ≡ option_map (λ n. pos n) (power_digits c.args.text.now)
valued c l =
    let ds = c.args.text.now in
    let e : length c.split.result.1.now ≡ 0 = grind (arith, nat_tests, c.if-not-is_empty.ensures) in
    let r : run_of c.args.text.now ≡ length c.args.text.now = omega (arith, run_le c.args.text.now) in
    let t : c.as_str.result.now ≡ ds = c.as_str.ensures ∙ c.split.ensures.digits ∙ ap (λ n. take n ds) r ∙ take_all (length ds) ds (omega arith) in
    c.ok.ensures.value ∙ power_parsed ds c.parse.result (subst (λ x. ParsesSigned w16 10 x c.parse.result) t c.parse.ensures.value.0) (all_run ds r) (omega arith)

pub returns-clause-value : goal.returns-clause-value
returns-clause-value c = valued (goal.at.returns-clause-value c).After-ok (left (goal.at.returns-clause-value c).After-split)

pub returns-clause-bound : goal.returns-clause-bound
returns-clause-bound c =
    subst (λ o. IfSome o (λ z. (pos 0 ≤ℤ z) × (z ≤ℤ pos 999)))
    (sym (valued (goal.at.returns-clause-bound c).After-ok (left (goal.at.returns-clause-bound c).After-split)))
    (power_bound c.args.text.now)
