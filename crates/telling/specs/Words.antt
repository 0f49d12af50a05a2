-- Words of a line, one after another.
use Rattle.std.specs.Prelude.{ℕ, List, [], ◌∷◌, Some, Option, codes, IfSome}
use Rattle.std.specs.Iterator.{Drains}
use Rattle.std.specs.Fmt.{◌++?◌, HasWritten}
use Rattle.std.specs.declared.fmt.Formatter.{Formatter}

-- the text of each, with a space in front
abbrev pub words_text : {X : Type 0} → (X → Option (List ℕ)) → List X → Option (List ℕ)
words_text text [] = Some []
words_text text (x ∷ xs) = Some (codes " ") ++? text x ++? words_text text xs

-- an iterator gave its items to the end, and of each the text was written, with a space in front
abbrev pub WritesEach : {S X W : Type 0} → (S → Option X → S → Type 0) → (X → Option (List ℕ)) → (W → List ℕ → W → Type 0) → S → Formatter W → Formatter W → Type 0
WritesEach {X = X} steps text took words f g = (xs : List X) × Drains steps words xs × IfSome (words_text text xs) (λ bs. HasWritten took f bs g)
