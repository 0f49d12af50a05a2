-- Values are a set, so that being a value of a type is a proposition.
use Rattle.std.specs.Prelude.{◌≡◌, ℕ, Bool, ◌⊎◌, List, ℤ, Some, None, Option, refl}
use Rattle.std.proofs.Common.{sym, ap, ◌∙◌, inl, inr}
use base.Stored.{Coded, Coded-set, coded_unit, coded_ℕ, coded_bool, coded_ℤ, coded×, coded⊎, coded_list, coded_via}
use Rattle.protocol.specs.declared.kind.Kind.{Kind}
use Rattle.value.specs.Values.{Datum, truth, whole, real, words, value_read, spelled, Valid}

-- what a value is made of
abbrev Parts : Type 0
Parts = Bool ⊎ (ℤ ⊎ ((Bool × (ℕ × ℤ)) ⊎ List ℕ))

abbrev apart : Datum → Parts
apart (truth b) = inl b
apart (whole z) = inr (inl z)
apart (real x) = inr (inr (inl (x.negative, (x.digits, x.exponent))))
apart (words bs) = inr (inr (inr bs))

abbrev together : Parts → Datum
together (inl b) = truth b
together (inr (inl z)) = whole z
together (inr (inr (inl p))) = real (record { negative = p.0; digits = p.1.0; exponent = p.1.1 })
together (inr (inr (inr bs))) = words bs

back : (d : Datum) → together (apart d) ≡ d
back (truth b) = refl
back (whole z) = refl
back (real x) = refl
back (words bs) = refl

coded_datum : Coded Datum
coded_datum =
    coded_via (coded⊎ coded_bool (coded⊎ coded_ℤ (coded⊎ (coded× coded_bool (coded× coded_ℕ coded_ℤ)) (coded_list coded_ℕ)))) apart (λ x y p. sym (back x) ∙ ap together p ∙ back y)

abbrev opened : Option Datum → Unit {0} ⊎ Datum
opened None = inl tt
opened (Some d) = inr d

abbrev closed : Unit {0} ⊎ Datum → Option Datum
closed (inl u) = None
closed (inr d) = Some d

same : (o : Option Datum) → closed (opened o) ≡ o
same None = refl
same (Some d) = refl

pub valid_prop : (k : Kind) (d : Datum) → IsProp (Valid k d)
valid_prop k d =
    Coded-set (coded_via (coded⊎ coded_unit coded_datum) opened (λ x y p. sym (same x) ∙ ap closed p ∙ same y)) (value_read k (spelled d)) (Some d)
