-- The words of a line.
--     words_of line    what its spaces part
--     ahead w          the words that a cursor has still to hand out
use Rattle.std.specs.Prelude.{ℕ, cond, List, [], ◌∷◌, ◌++◌, length, ◌==◌}
use Rattle.notation.specs.declared.words.Words.{Words}

-- a word in front of others, unless it has no bytes
abbrev pub unless_empty : List ℕ → List (List ℕ) → List (List ℕ)
unless_empty word others = cond (length word == 0) others (word ∷ others)

-- the words of the rest of a line, where the bytes of the first are known up to here
abbrev pub words_behind : List ℕ → List ℕ → List (List ℕ)
words_behind word [] = unless_empty word []
words_behind word (b ∷ rest) = cond (b == 32) (unless_empty word (words_behind [] rest)) (words_behind (word ++ b ∷ []) rest)

-- one or more spaces part the words; those in front and behind count for nothing
abbrev pub words_of : List ℕ → List (List ℕ)
words_of line = words_behind [] line

abbrev pub ahead : Words → List (List ℕ)
ahead w = words_of w.rest.now
