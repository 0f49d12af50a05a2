use Rattle.std.proofs.Common.{Some, Ok, codes, refl}
use Rattle.std.specs.Fmt.{◌++?◌}
use Rattle.telling.specs.Words.{words_text}
use Rattle.telling.proofs.Tells.{words_more, written_more}
use Rattle.telling.proofs.words.write_words.Goals as goal

pub loop-word-preserved : goal.loop-word-preserved
loop-word-preserved g c = (
  c.in-Some.ensures.goes.keeps,
  (c.in-Some.ensures.goes.on c.loop-word.invariant.1).1,
  λ plain. rw (words_more g.T.Display.output c.loop-word.yielded c.in-Some.word)
      (written_more g.W.Write.write_str_gives c.args.f.now c.loop-word.f c.write.new.self (Ok c.in_ok-write.field-0) (words_text g.T.Display.output c.loop-word.yielded)
      (Some (codes " ") ++? g.T.Display.output c.in-Some.word) (c.loop-word.invariant.2 plain) c.in_ok-write.ensures.writes refl),
)
