use Rattle.std.proofs.Common.{IfSome}
use Rattle.std.specs.Fmt.{HasWritten, IsPlainFormatter}
use Rattle.telling.specs.Words.{words_text}
use Rattle.telling.proofs.words.write_words.Given as goal

abbrev pub invariant-loop-word : goal.invariant-loop-word
invariant-loop-word g l =
    (goal.iterator-loop-word g).can_next l.word-iterator ×
    (goal.iterator-loop-word g).is_finite l.word-iterator ×
    (IsPlainFormatter l.initial.f → IfSome (words_text g.T.Display.output l.yielded) (λ bs. HasWritten g.W.Write.write_str_gives l.initial.f bs l.f))
