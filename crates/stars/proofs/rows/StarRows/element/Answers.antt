use Rattle.std.proofs.Common.{map, vec_items, sym, rules}
use Rattle.sky.specs.Stars.{row}
use Rattle.store.specs.Contents.{typed}
use Rattle.value.specs.declared.value.Value.TheVariants.{St}
use Rattle.stars.specs.Counting.{nothing_outside}
use Rattle.stars.proofs.Asked.{part_at}
use Rattle.stars.proofs.rows.StarRows.element.Goals as goal

pub returns-then-not-covers-clause-value : goal.returns-then-not-covers-clause-value
returns-then-not-covers-clause-value c = sym (nothing_outside (map row (vec_items c.args.self.now.stars)) c.args.index (sym c.if-not-covers.ensures))

pub returns-in-0-clause-value : goal.returns-in-0-clause-value
returns-in-0-clause-value c =
    part_at (vec_items c.args.self.now.stars) c.args.index 0 c.index-star.result.now (typed (St c.name.result)) (sym c.if-not-covers.ensures) (search rules) (search rules) (search rules)

pub returns-in-1-clause-value : goal.returns-in-1-clause-value
returns-in-1-clause-value c =
    part_at (vec_items c.args.self.now.stars) c.args.index 1 c.index-star.result.now _ (sym c.if-not-covers.ensures) (search rules) (search rules) (search rules)

pub returns-in_default-clause-value : goal.returns-in_default-clause-value
returns-in_default-clause-value c =
    part_at (vec_items c.args.self.now.stars) c.args.index 2 c.index-star.result.now _ (sym c.if-not-covers.ensures) (search rules) (search rules) (search rules)
