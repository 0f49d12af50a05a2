use Rattle.std.proofs.Common.{◌≡◌, ◌+◌, ◌++◌, length, take}
use Rattle.packet.specs.Cursors.{writes_ahead}
use Rattle.mount_box.specs.Carrying.{write_codes, after_writes}
use Rattle.mount_box.proofs.carrying.write_all.Given as goal

abbrev pub invariant-loop-write : goal.invariant-loop-write
invariant-loop-write g l =
    (take l.count l.codes ++ write_codes (g.S.Store.meaning l.store) (writes_ahead l.write-iterator) ≡ write_codes (g.S.Store.meaning l.initial.store) (writes_ahead l.fn.writes))
    × (after_writes (g.S.Store.meaning l.store) (writes_ahead l.write-iterator) ≡ after_writes (g.S.Store.meaning l.initial.store) (writes_ahead l.fn.writes))
    × (l.count + length (writes_ahead l.write-iterator) ≡ length (writes_ahead l.fn.writes))
