-- A packet while it is put together, at the front of a row.
use Rattle.std.specs.Prelude.{◌≡◌, ℕ, ◌+◌, ◌≤◌, List, ◌++◌, length, take, drop, Ok, Err, Result}
use Rattle.protocol.specs.declared.code.Code.{Code}
use Rattle.packet.specs.Groups.{lacking}
use Rattle.writer.specs.declared.draft.Draft.{Draft}
use Rattle.writer.specs.Bytes.{readout_fields}

-- `done` stands at the front of what was the row `first`, the draft goes on behind it, and the rest is as it was
pub record Done (first done : List ℕ) (draft : Draft) : Type 0 where
  pub whole : draft.row.now ≡ done ++ drop (length done) first
  pub here : draft.at ≡ length done

-- the bytes were put behind what was done, where there was room for them, into the same row; with or without room, what
-- stood in front of them stays
pub record Puts (before : Draft) (bytes : List ℕ) (after : Draft) : Type 0 where
  pub same : after.row.ghost_name ≡ before.row.ghost_name
  pub more : (first done : List ℕ) → length done + length bytes ≤ length first → Done first done before → Done first (done ++ bytes) after
  pub held : take before.at after.row.now ≡ take before.at before.row.now
  pub on : before.at ≤ after.at
  pub long : length after.row.now ≡ length before.row.now

-- the fields of what was found, or those of the code that says why there is nothing
abbrev pub told_fields : {V : Type 0} → (V → List (List ℕ)) → Result V Code → List (List ℕ)
told_fields fields (Ok found) = fields found
told_fields fields (Err code) = readout_fields (lacking code)
