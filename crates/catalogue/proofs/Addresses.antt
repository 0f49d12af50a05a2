-- The partner with an address, as the search finds it and as the definitions count it.
use Rattle.std.proofs.Common.{◌≡◌, ℕ, ◌<◌, Bool, true, false, cond, ◌||◌, ltb, leb, List, [], ◌∷◌, ◌++◌, length, is_some, Some, None, Ok, Err, Option, sym, refl, ap, ◌∙◌}
use Rattle.std.proofs.lemmas.Bool.{cond-true, cond-false, or_from, le-leb, lt-leb}
use Rattle.std.specs.List.{position}
use Rattle.protocol.specs.declared.refusal.Refusal.TheVariants.{Enlisted, Unknown}
use Rattle.field.specs.declared.words.Direction.TheVariants.{Request}
use Rattle.packet.specs.Messages.{Message, Content, read_request, write_request, discovery_request, read_answer, write_answer, discovery_answer, direction_of}
use Rattle.slab_rows.specs.Searches.{first_by}
use Rattle.slab_rows.proofs.Firsts.{position_first, first_some, first_none}
use Rattle.catalogue.specs.declared.partner.Waiting.{Waiting}
use Rattle.catalogue.specs.Stations.{Station, newcomer, at_address, partner_at, enlisting}
use Rattle.catalogue.specs.Opening.{partner}
use Rattle.catalogue.specs.Receiving.{not_received, for_waiting, from_partner, by_content}

-- a search finds one just where one passes
found_is : {X : Type 0} (p : X → Bool) (xs : List X) → is_some (position p xs) ≡ ltb (first_by p xs) (length xs)
found_is p xs = ap is_some (position_first p xs) ∙ by_test (ltb (first_by p xs) (length xs))
  where
    by_test : (b : Bool) → is_some (cond b (Some (first_by p xs)) None) ≡ b
    by_test true = refl
    by_test false = refl

module _ (s : Station) (a : ℕ) where
  -- the address is enlisted already, and it is not
  pub enlisted_already : is_some (position (at_address a) s.partners) ≡ true → enlisting s a ≡ record { answer = Err Enlisted; after = s }
  enlisted_already h = cond-true _ _ _ (ap (λ b. b || leb 16 (length s.partners)) (sym (found_is (at_address a) s.partners) ∙ h))

  pub enlisted_newly : is_some (position (at_address a) s.partners) ≡ false → length s.partners < 16
      → enlisting s a ≡ record {
        answer = Ok (length s.partners);
        after = record { timing = s.timing; clock = s.clock; partners = s.partners ++ (newcomer a ∷ []); counts = s.counts };
      }
  enlisted_newly h room = cond-false _ _ _ (or_from _ _ (sym (found_is (at_address a) s.partners) ∙ h) (lt-leb _ _ room))

  -- an answer comes from nobody that is known, or from the k-th partner
  module _ (m : Message) (c : Content) (asks : direction_of c ≡ Request → ⊥) where
    by_answer : by_content s a m c ≡ from_partner s (partner_at s.partners a) m
    by_answer = by_kind c asks
      where
        by_kind : (c : Content) → (direction_of c ≡ Request → ⊥) → by_content s a m c ≡ from_partner s (partner_at s.partners a) m
        by_kind (read_request x) h = absurd (h refl)
        by_kind (write_request x) h = absurd (h refl)
        by_kind discovery_request h = absurd (h refl)
        by_kind (read_answer x) h = refl
        by_kind (write_answer x) h = refl
        by_kind (discovery_answer x) h = refl

    pub from_nobody : None ≡ position (at_address a) s.partners → by_content s a m c ≡ not_received s Unknown
    from_nobody e = by_answer ∙ cond-true _ _ _ (le-leb _ _ (first_none (at_address a) s.partners e))

    pub from_found : (k : ℕ) → Some k ≡ position (at_address a) s.partners → (w : Option Waiting) → (partner s k).waiting ≡ w → by_content s a m c ≡ for_waiting s k m w
    from_found k e w here =
        let f = first_some (at_address a) s.partners k e in
        by_answer ∙ ap (λ i. from_partner s i m) (sym f.0) ∙ cond-false _ _ _ (lt-leb _ _ f.1) ∙ ap (for_waiting s k m) here
