use Rattle.std.proofs.Common.{rules, ◌≡◌, ℕ, ◌<◌, true, false, length, get_or, IfSome, IfNone}
use Rattle.slab_rows.proofs.Firsts.{place_found}
use Rattle.mount_box.specs.Senders.{is_of, blank}
use Rattle.mount_box.specs.declared.senders.SenderRecord.{SenderRecord}
use Rattle.mount_box.proofs.tables.find.Goals as goal

pub returns-clause-place : goal.returns-clause-place
returns-clause-place c =
    let mine = is_of c.args.sender in
    let xs = c.args.records.now in
    let absent : IfNone c.find_map.result ((k : ℕ) → k < length xs → is_of c.args.sender (get_or xs k blank) ≡ false) = search rules in
    let there : IfSome c.find_map.result (λ found. (found.0 < length xs) × (is_of c.args.sender (get_or xs found.0 blank) ≡ true) × ((k : ℕ) → k < found.0 → is_of c.args.sender (get_or xs k blank) ≡ false)) = search rules in
    place_found mine xs (λ (found : ℕ × SenderRecord). found.0) blank c.find_map.result absent there
