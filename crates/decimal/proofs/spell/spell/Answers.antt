use Rattle.std.proofs.Common.{◌≡◌, ◌-◌, ◌^◌, ◌<◌, ◌≤◌, ◌++◌, length, pos, ◌+ℤ◌, Some, sym, ap, ◌∙◌, arith, w16, to_z, of_z, rules}
use Rattle.std.specs.Fmt.{sign_text}
use Rattle.std.specs.Option.{option_map}
use Rattle.std.proofs.lemmas.Bool.{cond-true}
use Rattle.std.proofs.lemmas.Int.{ints}
use Rattle.std.proofs.lemmas.Fmt.{decimal_nonempty, length-decimal-le}
use Rattle.protocol.specs.Held.{text_bytes}
use Rattle.protocol.specs.Texts.{text_of}
use Rattle.decimal.specs.Spelling.{spelling, placed}
use Rattle.decimal.proofs.Forms.{kept_by, spelled_textual}
use Rattle.decimal.proofs.Readings.{some_made}
use Rattle.decimal.proofs.Reals.{sum_in}
use Rattle.decimal.proofs.spell.spell.Goals as goal
use Rattle.decimal.proofs.spell.spell.Goals.{After-format-digits, After-new, then-d, else-d}

counted : (c : goal.After-format-digits) → (1 ≤ length c.format-digits.result.now) × (length c.format-digits.result.now ≤ 18)
counted c =
    let n = c.args.d.real.digits in
    let h : n < 10 ^ 18 = search rules in
    let f : n < 2 ^ 64 = omega arith in
    let l = ap length c.format-digits.ensures.text in
    (omega (arith, decimal_nonempty n f), omega (arith, length-decimal-le 18 n (omega arith) h f))

pub overflow_sub-places : goal.overflow_sub-places
overflow_sub-places c = (counted (goal.at.overflow_sub-places c).After-format-digits).0

pub place-requires-clause-some : goal.place-requires-clause-some
place-requires-clause-some c = (counted (goal.at.place-requires-clause-some c).After-format-digits).0

pub place-requires-clause-few : goal.place-requires-clause-few
place-requires-clause-few c = (counted (goal.at.place-requires-clause-few c).After-format-digits).1

signed_by : (c : goal.After-new) → c.if-d.text.bytes ≡ sign_text c.args.d.real.negative
signed_by c = elim c.if-d.branch [ then-d w ↦ search rules | else-d w ↦ search rules ]

-- what is made a text
written : (c : goal.After-new) → length c.format-digits.result.now ≤ 18 → c.as_bytes.result.now ≡ spelling c.args.d.real
written c k =
    let d = c.args.d.real in
    let ds = c.format-digits.result.now in
    c.as_bytes.ensures.value
    ∙ c.as_str.ensures.value
    ∙ c.place.ensures
    ∙ ap (λ x. x ++ placed (to_z w16 (of_z w16 (to_z w16 (of_z w16 d.exponent) +ℤ to_z w16 (length ds - 1)))) ds) (signed_by c)
    ∙ ap (λ x. sign_text d.negative ++ placed x ds) (sum_in d.exponent (pos (length ds - 1)) (omega (arith, ints, c.requires.0)) (omega (arith, ints, c.requires.1)) (omega (arith, ints)) (omega (arith, ints)))
    ∙ ap (λ x. sign_text d.negative ++ placed (d.exponent +ℤ pos (length x - 1)) x) c.format-digits.ensures.text

made : (c : goal.After-new) → length c.format-digits.result.now ≤ 18 → option_map text_bytes c.new.result ≡ Some (spelling c.args.d.real)
made c k =
    let d = c.args.d in
    c.new.ensures
    ∙ ap text_of (written c k)
    ∙ cond-true _ _ _ (spelled_textual d.real (kept_by d.real d.normal c.requires.0 c.requires.1))

pub unwrap-requires : goal.unwrap-requires
unwrap-requires c =
    some_made text_bytes c.new.result _ (made (goal.at.unwrap-requires c).After-new (counted (goal.at.unwrap-requires c).After-format-digits).1)

pub returns : goal.returns
returns c =
    let m = made (goal.at.returns c).After-new (counted (goal.at.returns c).After-format-digits).1 in
    let e = ap (option_map text_bytes) c.unwrap.ensures in
    cc (sym e ∙ m)
