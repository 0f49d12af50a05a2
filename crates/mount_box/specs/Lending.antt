-- What the sender table ends as, where one record is lent.
use Rattle.std.specs.Prelude.{ℕ, Option, slice_set}
use Rattle.std.specs.Borrow.{Lends, MutBor, Fml}
use Rattle.std.specs.contracts.option.Option.{the_row as option_row}
use Rattle.mount_box.specs.declared.senders.SenderRecord.{SenderRecord}
use Rattle.mount_box.specs.declared.table.SenderTable.{SenderTable}
use Rattle.mount_box.specs.contracts.senders.SenderRecord.{the_row as record_row}
use Rattle.mount_box.specs.contracts.table.SenderTable.{the_row as table_row}

-- record k of the table ends as the last value behind r, and no other record changes
abbrev pub LendsRecord : MutBor SenderTable → ℕ → MutBor (Option SenderRecord) → Fml
LendsRecord table k r = Lends table_row (option_row record_row) table r (λ w. record { records = slice_set table.now.records k w; ok = tt })
