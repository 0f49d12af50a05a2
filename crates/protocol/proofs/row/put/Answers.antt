use Rattle.std.proofs.Common.{◌≡◌, ◌+◌, ◌-◌, true, length, sym, ap, ◌∙◌, arith}
use borrow.Rule.Slice.PartMut.{put_mid}
use Rattle.std.proofs.lemmas.Bool.{cond-true, le-leb}
use Rattle.protocol.specs.Rows.{fits}
use Rattle.protocol.proofs.Writes.{put_middle}
use Rattle.protocol.proofs.row.put.Goals as goal

pub returns : goal.returns
returns c =
    let row = c.args.row.now in
    let at = c.args.at in
    let bytes = c.args.bytes.now in
    let t : fits row at bytes ≡ true = le-leb (at + length bytes) (length row) (omega arith) in
    record {
      end = sym (cond-true _ _ _ t);
      row = ap (put_mid at (at + length bytes - at) row) c.copy_from_slice.ensures.after ∙ put_middle row bytes at ∙ sym (cond-true _ _ _ t);
    }
