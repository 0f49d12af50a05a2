-- What a maker tells, from the makings of its parts.
use Rattle.std.proofs.Common.{◌≡◌, ℕ, Bool, true, false, ◌&&◌, List, Ok, Err, Result, sym, refl, ap, ◌∙◌, arith}
use Rattle.std.specs.Result.{IsErrAnd}
use Rattle.protocol.specs.Words.{refusal_number}
use Rattle.protocol.specs.declared.refusal.Refusal.{Refusal}
use Rattle.protocol.specs.Texts.{textual}
use Rattle.store.specs.Contents.{Contents}
use Rattle.store.specs.House.{house_of}
use Rattle.stock.specs.Made.{told, if_held, housed, side_by_side}

-- the ground that a part was turned down for
pub turned_down : {S : Type 0} (meaning : S → Contents) (r : Result S Refusal) (ground : Refusal) → IsErrAnd r (λ x. x ≡ ground) → told meaning r ≡ Err (refusal_number ground)
turned_down meaning (Ok s) ground h = absurd h
turned_down meaning (Err x) ground h = ap (λ y. Err (refusal_number y)) h

-- the one number of a part that was turned down
pub number_down : (b : Bool) (c : Contents) (n : ℕ) → Err n ≡ if_held b c → n ≡ 13
number_down true c n e = let z : ◌≡◌ {A = ℕ} 0 1 = cc in absurd (omega arith)
number_down false c n e = cc

-- a house record below a part that was turned down
pub house_below_none : (serial identifier : List ℕ) (o : Result Contents ℕ) (n : ℕ) → n ≡ 13 → Err n ≡ o → Err n ≡ side_by_side (housed serial identifier) o
house_below_none serial identifier o n t e =
    ap Err t
    ∙ elim (textual serial && textual identifier) as (λ b. Err 13 ≡ side_by_side (if_held b (house_of serial identifier)) (Err 13)) [ true ↦ refl | false ↦ refl ]
    ∙ ap (side_by_side (housed serial identifier)) (ap Err (sym t) ∙ e)
