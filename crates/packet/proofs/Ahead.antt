-- Groups in a row.
use Rattle.std.proofs.Common.{◌≡◌, ℕ, zero, suc, ◌+◌, ◌-◌, ◌*◌, ◌<◌, ◌≤◌, true, false, eqb, List, [], ◌∷◌, length, drop, Ok, Err, Result, sym, refl, ap, ◌∙◌, mul-zero, mul-suc, add-one, arith}
use Rattle.std.proofs.lemmas.Bool.{ne_eqb, eq-eqb, true≢false, false≢true}
use Rattle.packet.specs.Groups.{in_front, if_group, groups, ahead}

-- what is left after n groups
abbrev pub past : ℕ → ℕ → List (List ℕ) → List (List ℕ)
past width zero fs = fs
past width (suc n) fs = past width n (drop width fs)

pub past_more : (width n : ℕ) (fs : List (List ℕ)) → past width (suc n) fs ≡ drop width (past width n fs)
past_more width zero fs = refl
past_more width (suc n) fs = past_more width n (drop width fs)

module _ {X : Type 0} (width : ℕ) (group : List (List ℕ) → Result X ℕ) where
  -- the first of suc n groups
  record Begins (n : ℕ) (fs : List (List ℕ)) : Type 0 where
    x : X
    is : group fs ≡ Ok x
    rest : length (ahead width group n (drop width fs)) ≡ n

  begins : (n : ℕ) (fs : List (List ℕ)) → length (ahead width group (suc n) fs) ≡ suc n → Begins n fs
  begins n fs h = split (group fs) refl h
    where
      split : (r : Result X ℕ) → group fs ≡ r → length (if_group r (ahead width group n (drop width fs))) ≡ suc n → Begins n fs
      split (Err place) e h = absurd (omega arith)
      split (Ok x) e h = record { x = x; is = e; rest = omega arith }

  -- one group more
  pub ahead_more : (n : ℕ) (fs : List (List ℕ)) (x : X) → length (ahead width group n fs) ≡ n → Ok x ≡ group (past width n fs) → length (ahead width group (suc n) fs) ≡ suc n
  ahead_more zero fs x h e = ap (λ r. length (if_group r [])) (sym e)
  ahead_more (suc n) fs x h e =
      let b = begins n fs h in
      ap (λ r. length (if_group r (ahead width group (suc n) (drop width fs)))) b.is ∙ ap suc (ahead_more n (drop width fs) x b.rest e)

  module _ (none : group [] ≡ Err 0) where
    pub groups_step : (k least most : ℕ) (fs : List (List ℕ)) (x : X) → group fs ≡ Ok x → groups width group k least fs (suc most) ≡ in_front x (groups width group (k + width) (least - 1) (drop width fs) most)
    groups_step k least most [] x e = cc
    groups_step k least most (f ∷ fs) x e = rw e

    further : (n k place : ℕ) → k + width + width * n + place ≡ k + width * suc n + place
    further n k place = let e : width * suc n ≡ width * n + width = mul-suc width n in omega arith

    -- all fields are read
    pub groups_all : (n k least most : ℕ) (fs : List (List ℕ)) → length (ahead width group n fs) ≡ n → past width n fs ≡ [] → least ≤ n → n ≤ most → groups width group k least fs most ≡ Ok (ahead width group n fs)
    groups_all zero k least most fs h e low high = rw (e, eq-eqb least 0 (omega arith))
    groups_all (suc n) k least zero fs h e low high = absurd (omega arith)
    groups_all (suc n) k least (suc most) fs h e low high =
        let b = begins n fs h in
        groups_step k least most fs b.x b.is
        ∙ ap (in_front b.x) (groups_all n (k + width) (least - 1) most (drop width fs) b.rest e (omega arith) (omega arith))
        ∙ ap (λ r. Ok (if_group r (ahead width group n (drop width fs)))) (sym b.is)

    -- too few of them
    pub groups_short : (n k least most : ℕ) (fs : List (List ℕ)) → length (ahead width group n fs) ≡ n → past width n fs ≡ [] → n < least → n ≤ most → groups width group k least fs most ≡ Err (k + width * n)
    groups_short zero k least most fs h e low high = let z : k + width * 0 ≡ k = omega (arith, mul-zero width) in rw (e, ne_eqb least 0 (λ q. omega arith), z)
    groups_short (suc n) k least zero fs h e low high = absurd (omega arith)
    groups_short (suc n) k least (suc most) fs h e low high =
        let b = begins n fs h in
        groups_step k least most fs b.x b.is
        ∙ ap (in_front b.x) (groups_short n (k + width) (least - 1) most (drop width fs) b.rest e (omega arith) (omega arith))
        ∙ ap Err (omega (arith, further n k 0))

    -- one too many
    pub groups_over : (n k least : ℕ) (fs : List (List ℕ)) → length (ahead width group n fs) ≡ n → 0 < length (past width n fs) → groups width group k least fs n ≡ Err (k + width * n)
    groups_over zero k least [] h some = absurd (omega arith)
    groups_over zero k least (f ∷ fs) h some = ap Err (omega (arith, mul-zero width))
    groups_over (suc n) k least fs h some =
        let b = begins n fs h in
        groups_step k least n fs b.x b.is
        ∙ ap (in_front b.x) (groups_over n (k + width) (least - 1) (drop width fs) b.rest some)
        ∙ ap Err (omega (arith, further n k 0))

    -- one that is none
    pub groups_broken : (n k least most : ℕ) (fs : List (List ℕ)) (place : ℕ) → length (ahead width group n fs) ≡ n → 0 < length (past width n fs) → n < most → Err place ≡ group (past width n fs) → groups width group k least fs most ≡ Err (k + width * n + place)
    groups_broken n k least zero fs place h some room e = absurd (omega arith)
    groups_broken zero k least (suc most) [] place h some room e = absurd (omega arith)
    groups_broken zero k least (suc most) (f ∷ fs) place h some room e = rw (← e) (ap Err (omega (arith, mul-zero width)))
    groups_broken (suc n) k least (suc most) fs place h some room e =
        let b = begins n fs h in
        groups_step k least most fs b.x b.is
        ∙ ap (in_front b.x) (groups_broken n (k + width) (least - 1) most (drop width fs) place b.rest some (omega arith) e)
        ∙ ap Err (further n k place)

-- n groups of `all` are read, and `rest` is what is left
abbrev pub Passed : {X : Type 0} → ℕ → (List (List ℕ) → Result X ℕ) → ℕ → List (List ℕ) → List (List ℕ) → Type 0
Passed width group n all rest = (rest ≡ past width n all) × (length (ahead width group n all) ≡ n)

nonempty : (fs gs : List (List ℕ)) → fs ≡ gs → false ≡ eqb (length fs) 0 → 0 < length gs
nonempty fs [] e t = absurd (false≢true (t ∙ ap (λ l. eqb (length l) 0) e))
nonempty fs (g ∷ gs) e t = omega arith

empty : (fs gs : List (List ℕ)) → fs ≡ gs → true ≡ eqb (length fs) 0 → gs ≡ []
empty fs [] e t = refl
empty fs (g ∷ gs) e t = absurd (true≢false (t ∙ ap (λ l. eqb (length l) 0) e ∙ ne_eqb (length (g ∷ gs)) 0 (λ z. omega arith)))

module _ {X : Type 0} (width : ℕ) (group : List (List ℕ) → Result X ℕ) (n : ℕ) (all rest : List (List ℕ)) (p : Passed width group n all rest) where
  pub passed_more : (x : X) (behind : List (List ℕ)) → Ok x ≡ group rest → behind ≡ drop width rest → Passed width group (n + 1) all behind
  passed_more x behind e d =
      let k : n + 1 ≡ suc n = add-one n in
      rw k (d ∙ ap (drop width) p.0 ∙ sym (past_more width n all), ahead_more width group n all x p.1 (e ∙ ap group p.0))

  module _ (none : group [] ≡ Err 0) where
    pub passed_over : (k least : ℕ) → false ≡ eqb (length rest) 0 → Err (k + width * n) ≡ groups width group k least all n
    passed_over k least t = sym (groups_over width group none n k least all p.1 (nonempty rest (past width n all) p.0 t))

    pub passed_broken : (k least most place : ℕ) → false ≡ eqb (length rest) 0 → n < most → Err place ≡ group rest → Err (k + width * n + place) ≡ groups width group k least all most
    passed_broken k least most place t room e = sym (groups_broken width group none n k least most all place p.1 (nonempty rest (past width n all) p.0 t) room (e ∙ ap group p.0))

    pub passed_all : (k least most : ℕ) → true ≡ eqb (length rest) 0 → least ≤ n → n ≤ most → Ok (ahead width group n all) ≡ groups width group k least all most
    passed_all k least most t low high = sym (groups_all width group none n k least most all p.1 (empty rest (past width n all) p.0 t) low high)

    pub passed_short : (k least most : ℕ) → true ≡ eqb (length rest) 0 → n < least → n ≤ most → Err (k + width * n) ≡ groups width group k least all most
    passed_short k least most t low high = sym (groups_short width group none n k least most all p.1 (empty rest (past width n all) p.0 t) low high)
