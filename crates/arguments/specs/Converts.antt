-- Numbers that convert into a type.
use Rattle.std.proofs.Common.{◌≡◌, ℕ, ◌+◌, ◌<◌, cond, Some, None, Ok, Err, Result, nat_le, ap, sym, ◌∙◌, arith}
use Rattle.std.specs.Option.{option_map}
use Rattle.std.specs.Result.{result_ok, OkIff}
use Rattle.std.proofs.lemmas.Bool.{cond-true, cond-false, le-leb, lt-leb}

pub converts_up_to : {E : Type 0} (most n : ℕ) (r : Result ℕ E) → OkIff r (n < most + 1) n → option_map (λ m. m) (result_ok r) ≡ cond (nat_le n most) (Some n) None
converts_up_to most n (Ok x) (h, e) = ap Some e ∙ sym (cond-true _ _ _ (le-leb n most (omega arith)))
converts_up_to most n (Err d) h = sym (cond-false _ _ _ (lt-leb n most (omega (arith, h))))
