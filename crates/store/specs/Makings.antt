-- How the making of a store goes.
use Rattle.std.specs.Prelude.{ℕ, Ok, Err, Result}
use Rattle.protocol.specs.Words.{refusal_number}
use Rattle.store.specs.Contents.{Contents}
use Rattle.store.specs.declared.rejected.Rejected.{Rejected}

-- what the store that was made means, or the number of the refusal with what was handed in
abbrev pub making : {A T : Type 0} → (A → Contents) → Result A (Rejected T) → Result Contents (ℕ × T)
making meaning (Ok s) = Ok (meaning s)
making meaning (Err r) = Err (refusal_number r.refusal, r.given)
