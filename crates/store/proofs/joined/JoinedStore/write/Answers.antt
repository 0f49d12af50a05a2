use Rattle.std.proofs.Common.{rules}
use Rattle.protocol.specs.Words.{code_number}
use Rattle.store.specs.Contents.{typed}
use Rattle.store.specs.Joins.{wrote_lower, wrote_upper}
use Rattle.store.proofs.joined.JoinedStore.write.Goals as goal

pub returns-then-covers-clause-after : goal.returns-then-covers-clause-after
returns-then-covers-clause-after g c =
    (wrote_lower (g.L.Store.meaning c.args.self.now.lower) (g.U.Store.meaning c.args.self.now.upper) (g.L.Store.meaning c.write.new.self) c.args.index (typed c.args.value) (code_number c.write.result) (search rules) c.write.ensures.code c.write.ensures.after).after

pub returns-then-covers-2-clause-after : goal.returns-then-covers-2-clause-after
returns-then-covers-2-clause-after g c =
    (wrote_upper (g.L.Store.meaning c.args.self.now.lower) (g.U.Store.meaning c.args.self.now.upper) (g.U.Store.meaning c.write-then-covers-2.new.self) c.args.index (typed c.args.value) (code_number c.write-then-covers-2.result) (search rules) (search rules) c.write-then-covers-2.ensures.code c.write-then-covers-2.ensures.after).after
