-- The parts of a line, one call of `next` at a time.
use Rattle.std.proofs.Common.{◌≡◌, ℕ, Bool, false, List, [], ◌∷◌, length, Some, None, Bor, eqb, ◌≢◌, sym, refl, arith}
use denote.Param.Members.{Mut}
use Rattle.std.specs.Fn.{CalledAt}
use Rattle.std.specs.Slice.Iter.{split_steps, split_rest, split_done, split_callee}
use Rattle.std.specs.declared.slice.Split.{Split}
use Rattle.std.proofs.lemmas.Iterator.{YieldsList}
use Rattle.std.proofs.lemmas.Iterator.Consumers.{YieldsList-end, YieldsList-turn}
use Rattle.std.proofs.lemmas.Iterator.Splits.{YieldsList-from_slice_split}
use Rattle.sky.specs.Rows.{parts}

module _ {F : Type 0} (g : Mut F (Bor ℕ × Unit {0}) Bool) (f : F) (s : Split ℕ F) (line : List ℕ) where
  road : split_rest s ≡ line → split_done s ≡ false → split_callee s ≡ f → ((x : ℕ) (b : Bool) (q : F) → CalledAt g f x b q → (q ≡ f) × (b ≡ eqb x 44)) → YieldsList (split_steps g) (λ x. x.now) s (parts line)
  road rest done closure tests = YieldsList-from_slice_split {s = s} g (λ b. eqb b 44) line rest done closure tests

  pub one_part : (t u : Split ℕ F) (a : Bor (List ℕ)) → split_rest s ≡ line → split_done s ≡ false → split_callee s ≡ f → split_steps g s (Some a) t → split_steps g t None u → ((x : ℕ) (b : Bool) (q : F) → CalledAt g f x b q → (q ≡ f) × (b ≡ eqb x 44)) → length (parts line) ≢ 3
  one_part t u a rest done closure k z tests three =
      let end = YieldsList-end (road rest done closure tests) (a ∷ []) t (t, k, refl) None u refl z in omega (arith, end.1)

  pub two_parts : (t u v : Split ℕ F) (a b : Bor (List ℕ)) → split_rest s ≡ line → split_done s ≡ false → split_callee s ≡ f → split_steps g s (Some a) t → split_steps g t (Some b) u → split_steps g u None v → ((x : ℕ) (b : Bool) (q : F) → CalledAt g f x b q → (q ≡ f) × (b ≡ eqb x 44)) → length (parts line) ≢ 3
  two_parts t u v a b rest done closure k l z tests three =
      let end = YieldsList-end (road rest done closure tests) (a ∷ b ∷ []) u (t, k, (u, l, refl)) None v refl z in omega (arith, end.1)

  pub more_parts : (t u v w : Split ℕ F) (a b c d : Bor (List ℕ)) → split_rest s ≡ line → split_done s ≡ false → split_callee s ≡ f → split_steps g s (Some a) t → split_steps g t (Some b) u → split_steps g u (Some c) v → split_steps g v (Some d) w → ((x : ℕ) (b : Bool) (q : F) → CalledAt g f x b q → (q ≡ f) × (b ≡ eqb x 44)) → length (parts line) ≢ 3
  more_parts t u v w a b c d rest done closure k l m n tests three =
      let turn = YieldsList-turn (road rest done closure tests) (a ∷ b ∷ c ∷ []) v (t, k, (u, l, (v, m, refl))) (Some d) w d refl n in omega (arith, turn.0)

  pub three_parts : (t u v w : Split ℕ F) (a b c : Bor (List ℕ)) → split_rest s ≡ line → split_done s ≡ false → split_callee s ≡ f → split_steps g s (Some a) t → split_steps g t (Some b) u → split_steps g u (Some c) v → split_steps g v None w → ((x : ℕ) (b : Bool) (q : F) → CalledAt g f x b q → (q ≡ f) × (b ≡ eqb x 44)) → parts line ≡ a.now ∷ b.now ∷ c.now ∷ []
  three_parts t u v w a b c rest done closure k l m z tests =
      let end = YieldsList-end (road rest done closure tests) (a ∷ b ∷ c ∷ []) v (t, k, (u, l, (v, m, refl))) None w refl z in sym end.0
