use Rattle.std.proofs.Common.{◌≡◌, ℕ, Bool, ℤ, ◌*◌, ◌%◌, ◌^◌, pos, Some, sym, ap, ◌∙◌, zero-mul, arith}
use Rattle.std.proofs.lemmas.Int.{ints}
use Rattle.decimal.specs.declared.real.Real.{Real}
use Rattle.decimal.specs.Gather.{amount}
use Rattle.decimal.proofs.Readings.{normal_is, normal_zero}
use Rattle.decimal.proofs.Reals.{sum_in}
use Rattle.decimal.proofs.scan.settle.Goals as goal
use Rattle.decimal.proofs.scan.settle.Goals.{then-c-eq0, else-c-eq0}

settled : (negative : Bool) (digits : ℕ) (x y : ℤ) → x ≡ y → ◌≡◌ {A = Real} (record { negative = negative; digits = digits; exponent = x }) (record { negative = negative; digits = digits; exponent = y })
settled negative digits x y e = ap (λ z. record { negative = negative; digits = digits; exponent = z }) e

pub returns : goal.returns
returns c =
    elim c.if-c-eq0.branch [
      | then-c-eq0 w ↦
          normal_zero c.args.negative (amount c.args.c) c.args.power (ap (λ d. d * 10 ^ c.args.c.zeros) w.if-c-eq0.true ∙ zero-mul (10 ^ c.args.c.zeros))
          ∙ ap Some (sym w.real-is)
      | else-c-eq0 w ↦
          let n : c.args.c.digits % 10 ≡ 0 → ⊥ = λ e. w.if-c-eq0.false (c.args.c.last e) in
          let s = sum_in c.args.power (pos c.args.c.zeros) (omega (arith, ints, c.requires.bounds.0)) (omega (arith, ints, c.requires.bounds.1)) (omega (arith, ints)) (omega (arith, ints)) in
          normal_is c.args.negative c.args.c.digits c.args.c.zeros c.args.power n c.args.c.short c.requires.room
          ∙ ap Some (settled c.args.negative c.args.c.digits _ _ (sym s) ∙ sym (rw w.from.ensures at w.real-is))
    ]
