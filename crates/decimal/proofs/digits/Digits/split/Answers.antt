use Rattle.std.proofs.Common.{◌≡◌, true, take, drop, sym, ap, ◌∙◌, subst, rules, tests}
use Rattle.std.specs.Char.{is_ascii_digit}
use Rattle.std.specs.Str.{all_ascii_digits}
use Rattle.std.proofs.lemmas.Iterator.{YieldsList-from_slice}
use Rattle.std.proofs.lemmas.Iterator.Consumers.{count_from_yields_List}
use Rattle.std.proofs.lemmas.Iterator.Search.{YieldsList-from_take_while}
use Rattle.std.proofs.lemmas.List.Folds.{length-prefix_len}
use Rattle.decimal.specs.Reading.{run_of}
use Rattle.decimal.proofs.Readings.{run_is, run_digits}
use Rattle.decimal.proofs.digits.Digits.split.Goals as goal
use Rattle.decimal.proofs.digits.Digits.split.Goals.{After-split_at}

counted : (c : goal.After-split_at) → c.count-count.result ≡ run_of c.args.text.now
counted c =
    count_from_yields_List c.take_while.result _ c.count-count.ensures.ran (YieldsList-from_take_while _ is_ascii_digit (YieldsList-from_slice c.args.text.now (cc)) c.take_while.ensures.closure c.take_while.ensures.done (λ x b q k. search (rules, tests)))
    ∙ length-prefix_len is_ascii_digit c.args.text.now
    ∙ run_is c.args.text.now

front : (c : goal.After-split_at) → c.split_at.result.0.now ≡ take (run_of c.args.text.now) c.args.text.now
front c = c.split_at.ensures.front ∙ ap (λ n. take n c.args.text.now) (counted c)

pub invariant_of-result : goal.invariant_of-result
invariant_of-result c =
    record { digits = subst (λ ds. all_ascii_digits ds ≡ true) (sym (front (goal.at.invariant_of-result c).After-split_at)) (run_digits c.args.text.now) }

pub returns-clause-digits : goal.returns-clause-digits
returns-clause-digits c = front (goal.at.returns-clause-digits c).After-split_at

pub returns-clause-rest : goal.returns-clause-rest
returns-clause-rest c =
    c.split_at.ensures.back ∙ ap (λ n. drop n c.args.text.now) (counted (goal.at.returns-clause-rest c).After-split_at)
