use Rattle.std.proofs.Common.{◌≡◌, ◌+◌, ◌++◌, map, length, take}
use Rattle.packet.specs.Cursors.{indices_ahead}
use Rattle.writer.specs.Orders.{readout_of}
use Rattle.mount_box.specs.Carrying.{shown}
use Rattle.mount_box.proofs.carrying.read_all.Given as goal

abbrev pub invariant-loop-index : goal.invariant-loop-index
invariant-loop-index g l =
    (map readout_of (take l.count l.readings) ++ map (shown (g.S.Store.meaning l.store)) (indices_ahead l.index-iterator) ≡ map (shown (g.S.Store.meaning l.store)) (indices_ahead l.fn.indices))
    × (l.count + length (indices_ahead l.index-iterator) ≡ length (indices_ahead l.fn.indices))
