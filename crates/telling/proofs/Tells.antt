-- One word after another.
use Rattle.std.proofs.Common.{◌≡◌, ℕ, List, [], ◌∷◌, ◌++◌, IsOk, IfSome, Some, None, Option, Result, codes, map, length, subst, refl, ap, sym, ◌∙◌, append-nil}
use Rattle.std.specs.List.{flat_map}
use Rattle.std.proofs.lemmas.Iterator.{YieldsList, items_from_drains}
use Rattle.std.proofs.lemmas.Iterator.Consumers.{YieldsList-from_shown}
use Rattle.std.proofs.lemmas.List.Folds.{flat_map-map}
use Rattle.field.specs.declared.part.Part.{Part}
use Rattle.packet.specs.declared.groups.Groups.{Groups}
use Rattle.packet.specs.Cursors.{HandsOut}
use Rattle.std.specs.Fmt.{◌++?◌, HasWritten, DisplaysOnOk}
use Rattle.std.specs.declared.fmt.Error.{Error}
use Rattle.std.specs.declared.fmt.Formatter.{Formatter}
use Rattle.std.proofs.Output.{has_written_append, then_text_assoc}
use Rattle.telling.specs.Words.{words_text, WritesEach}

one_word : (o : Option (List ℕ)) → Some (codes " ") ++? (o ++? Some []) ≡ Some [] ++? (Some (codes " ") ++? o)
one_word None = refl
one_word (Some a) = ap (λ bs. Some (codes " " ++ bs)) (append-nil a)

-- one word more
pub words_more : {X : Type 0} (text : X → Option (List ℕ)) (xs : List X) (x : X) → words_text text (xs ++ x ∷ []) ≡ words_text text xs ++? (Some (codes " ") ++? text x)
words_more text [] x = one_word (text x)
words_more text (y ∷ xs) x =
    let last = Some (codes " ") ++? text x in
    ap (λ o. Some (codes " ") ++? (text y ++? o)) (words_more text xs x)
    ∙ ap (λ o. Some (codes " ") ++? o) (sym (then_text_assoc (text y) (words_text text xs) last))
    ∙ sym (then_text_assoc (Some (codes " ")) (text y ++? words_text text xs) last)

-- one text is written behind another, where both are known
pub written_more : {W : Type 0} (took : W → List ℕ → W → Type 0) (f g h : Formatter W) (r : Result (Unit {0}) Error) (o p : Option (List ℕ)) → IfSome o (λ bs. HasWritten took f bs g) → DisplaysOnOk took g r p h → IsOk r → IfSome (o ++? p) (λ bs. HasWritten took f bs h)
written_more took f g h r None p x d ok = tt
written_more took f g h r (Some a) None x d ok = tt
written_more took f g h r (Some a) (Some b) x d ok = has_written_append took f a g b h x (d x.plain ok)

-- the texts of all that were written
texts_of : {X B : Type 0} (v : X → B) (text : X → Option (List ℕ)) (word : B → List ℕ) → ((x : X) → text x ≡ Some (word (v x))) → (xs : List X) → words_text text xs ≡ Some (flat_map (λ b. codes " " ++ word b) (map v xs))
texts_of v text word h [] = refl
texts_of v text word h (x ∷ xs) = rw (h x, texts_of v text word h xs) refl

-- an iterator that gives a list has each of it written
pub told : {S X B W : Type 0} {steps : S → Option X → S → Type 0} {s : S} {all : List B} (v : X → B) (text : X → Option (List ℕ)) (word : B → List ℕ) (took : W → List ℕ → W → Type 0) (f g : Formatter W) → ((x : X) → text x ≡ Some (word (v x))) → WritesEach steps text took s f g → YieldsList steps v s all → HasWritten took f (flat_map (λ b. codes " " ++ word b) all) g
told v text word took f g h (xs, drains, written) gives =
    let items = items_from_drains xs (drains.1.0, drains.1.1, λ _. (drains.0, drains.1.2)) gives in
    rw (sym items) (rw (texts_of v text word h xs) at written)

-- the same of an iterator whose items are printed as something else
pub told_as : {S X B W : Type 0} {steps : S → Option X → S → Type 0} {s : S} (all : List B) (v : X → List ℕ) (text : X → Option (List ℕ)) (word : B → List ℕ) (took : W → List ℕ → W → Type 0) (f g : Formatter W) → ((x : X) → text x ≡ Some (v x)) → WritesEach steps text took s f g → YieldsList steps v s (map word all) → HasWritten took f (flat_map (λ b. codes " " ++ word b) all) g
told_as all v text word took f g h written gives =
    rw (sym (flat_map-map (λ w. codes " " ++ w) word all)) (told v text (λ w. w) took f g h written gives)

-- what a cursor over groups has still to hand out
pub handed : {G A X : Type 0} (said : A → X) (part : A → Option Part) (left : Groups G → List X) {cursor : Groups G} (xs : List X) → left cursor ≡ xs → YieldsList (HandsOut said part left) said cursor xs
handed said part left {cursor} xs e = subst (YieldsList (HandsOut said part left) said cursor) e (YieldsList-from_shown (HandsOut said part left) said left (λ s t h. ap length h.0.0) (λ s x t h. h.0) cursor)
