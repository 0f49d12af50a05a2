-- The rows of a slab.
use Rattle.std.specs.Prelude.{ℕ, ◌*◌, List, take, drop}
use Rattle.protocol.specs.Rows.{put_at}

-- the slab with bytes written over row k from the row's start
abbrev pub rowed : List ℕ → ℕ → List ℕ → List ℕ
rowed slab k bytes = put_at slab (512 * k) bytes

-- the first n bytes of row k
abbrev pub in_row : List ℕ → ℕ → ℕ → List ℕ
in_row slab k n = take n (drop (512 * k) slab)
