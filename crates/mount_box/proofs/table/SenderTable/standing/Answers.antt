use Rattle.std.proofs.Common.{◌≡◌, length, rules, arith}
use Rattle.std.proofs.lemmas.Bool.Decides.{nat_tests}
use Rattle.std.proofs.lemmas.Grind.{common_steps}
use Rattle.mount_box.proofs.Finding.{stands_known, stands_new}
use Rattle.mount_box.proofs.table.SenderTable.standing.Goals as goal

pub returns-in-Equal-clause-standing : goal.returns-in-Equal-clause-standing
returns-in-Equal-clause-standing c =
    let all : length c.args.self.now.records ≡ 16 = search rules in
    let s = stands_known c.args.self.now.records c.args.sender c.args.number all c.in-Some.row c.in-Some.newest (search rules) (search rules) in grind (arith, nat_tests)

pub returns-in-Less-clause-standing : goal.returns-in-Less-clause-standing
returns-in-Less-clause-standing c =
    let all : length c.args.self.now.records ≡ 16 = search rules in
    let s = stands_known c.args.self.now.records c.args.sender c.args.number all c.in-Some.row c.in-Some.newest (search rules) (search rules) in grind (arith, nat_tests)

pub returns-in-Greater-clause-standing : goal.returns-in-Greater-clause-standing
returns-in-Greater-clause-standing c =
    let all : length c.args.self.now.records ≡ 16 = search rules in
    let s = stands_known c.args.self.now.records c.args.sender c.args.number all c.in-Some.row c.in-Some.newest (search rules) (search rules) in grind (arith, nat_tests)

pub returns-in-None-clause-standing : goal.returns-in-None-clause-standing
returns-in-None-clause-standing c =
    let all : length c.args.self.now.records ≡ 16 = search rules in
    let s = stands_new c.args.self.now.records c.args.sender c.args.number all (search rules) in
    grind (arith, common_steps)
