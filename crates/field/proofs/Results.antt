-- What `map_err` passes on.
use Rattle.std.proofs.Common.{◌≡◌, true, Ok, Err, Result, MatchResult, is_ok}

-- a value that it passes on was there
pub ok_of : {X E : Type 0} (F : Type 0) (Q : E → Type 0) (r : Result X E) (x : X) → MatchResult r (λ y. ◌≡◌ {A = Result X F} (Ok x) (Ok y)) Q → true ≡ is_ok r → r ≡ Ok x
ok_of F Q (Ok y) x e k = cc
ok_of F Q (Err y) x e k = cc
