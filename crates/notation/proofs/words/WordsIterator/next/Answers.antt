use Rattle.std.proofs.Common.{rules, ◌≡◌, length, take, drop, ◌-◌, ◌∷◌, sym, ◌∙◌, ap, unwrap_or}
use Rattle.std.proofs.lemmas.Iterator.{YieldsList-from_slice}
use Rattle.std.proofs.lemmas.Iterator.Search.{position_from_yields_List}
use Rattle.std.proofs.lemmas.List.{take_rest}
use borrow.Author.Tests.{tests}
use Rattle.std.specs.List.{position}
use Rattle.notation.specs.Lines.{words_of}
use Rattle.notation.proofs.Spaces.{is_space, is_letter, no_word, next_word}
use Rattle.notation.proofs.words.WordsIterator.next.Goals as goal

pub returns-in_err-start-clause-steps : goal.returns-in_err-start-clause-steps
returns-in_err-start-clause-steps c =
    let line = c.args.self.now.rest.now in
    let e : c.position.result ≡ position is_letter line = position_from_yields_List is_letter _ _ c.position.result c.position.ensures.ran (YieldsList-from_slice line cc) (λ x b q k. search (rules, tests)) in
    let n = no_word line (sym c.in_err-start.was ∙ e) in
    rw c.from_residual.ensures (n, n)

word : (c : goal.After-rest-2-1) → words_of c.args.self.now.rest.now ≡ c.split_at.result.0.now ∷ words_of c.split_at.result.1.now
word c =
    let line = c.args.self.now.rest.now in
    let text = take (length line - c.in_ok-start.start) (drop c.in_ok-start.start line) in
    let e : c.position.result ≡ position is_letter line = position_from_yields_List is_letter _ _ c.position.result c.position.ensures.ran (YieldsList-from_slice line cc) (λ x b q k. search (rules, tests)) in
    let f : c.position-2.result ≡ position is_space text = position_from_yields_List is_space _ _ c.position-2.result c.position-2.ensures.ran (YieldsList-from_slice text cc) (λ x b q k. search (rules, tests)) in
    let end : c.unwrap_or-end.result ≡ unwrap_or (position is_space text) (length text) = c.unwrap_or-end.ensures ∙ ap (λ o. unwrap_or o (length text)) f in
    rw (c.split_at.ensures.front, c.split_at.ensures.back, take_rest line c.in_ok-start.start)
    (next_word line c.in_ok-start.start c.unwrap_or-end.result (sym c.in_ok-start.was ∙ e) (rw (take_rest line c.in_ok-start.start) at end))

pub returns-clause-steps : goal.returns-clause-steps
returns-clause-steps c = word c

pub returns-clause-goes : goal.returns-clause-goes
returns-clause-goes c = let e = ap length (word c) in search rules
