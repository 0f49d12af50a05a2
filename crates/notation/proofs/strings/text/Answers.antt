use Rattle.std.proofs.Common.{Ok, Err, IsOk, MatchResult, Result, refl}
use Rattle.std.proofs.lemmas.Str.{IsUtf8-from_ascii}
use Rattle.notation.proofs.strings.text.Goals as goal

cannot_fail : {X E : Type 0} (r : Result X E) (P : X → Type 0) (Q : E → Type 0) → MatchResult r P Q → ((e : E) → Q e → ⊥) → IsOk r
cannot_fail (Ok x) P Q m h = refl
cannot_fail (Err e) P Q m h = absurd (h e m)

pub unwrap-requires : goal.unwrap-requires
unwrap-requires c =
    cannot_fail c.from_utf8.result _ _ c.from_utf8.ensures.cases (λ e q. q.0 (IsUtf8-from_ascii c.args.bytes.now c.requires))
