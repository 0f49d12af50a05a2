use Rattle.std.proofs.Common.{sym, ◌∙◌, subst, rules}
use Rattle.std.specs.Iterator.{Yields}
use Rattle.std.proofs.ByRecursion.{All-push}
use Rattle.writer.proofs.Drafts.{puts_none, puts_group}
use Rattle.writer.proofs.Goods.{wrote}
use Rattle.writer.proofs.write.write.Goals as goal

pub loop-group-init : goal.loop-group-init
loop-group-init g c = record { puts = puts_none _; fits = tt }

pub loop-group-preserved : goal.loop-group-preserved
loop-group-preserved g c =
    let so_far = c.loop-group.invariant in
    record {
      puts = puts_group g.G.Put.fields c.loop-group.yielded c.in-Some.group so_far.puts c.put.ensures.puts;
      fits = All-push g.G.Put.fits c.loop-group.yielded c.in-Some.group so_far.fits c.put.ensures.fits;
    }

pub returns : goal.returns
returns g c m head spells =
    let groups = c.loop-group.yielded in
    let so_far = c.loop-group.invariant in
    let yields = subst (λ it. Yields g.I.Iterator.next_gives it groups c.loop-group.group-iterator) c.into_iter-group-iterator.ensures.into_iter_gives c.loop-group.yielded_by in
    let spelled = spells groups (c.next.new.self, (c.loop-group.group-iterator, yields, c.in-None.ensures.steps)) so_far.fits in
    let name = sym (c.put-2.ensures.same ∙ so_far.puts.same ∙ c.put_head.ensures.same ∙ c.new-draft.ensures.name) in
    wrote g.G.Put.fields groups c.args.allowed c.args.head m c.args.row.now _ _ head spelled c.if-not-allowed.false c.if-row-lt512.false
    c.new-draft.ensures.row c.new-draft.ensures.at c.put_head.ensures so_far.puts c.put-2.ensures (search (name, rules)) c.len.ensures
