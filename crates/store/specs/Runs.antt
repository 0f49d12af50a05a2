-- A list of reads and writes, and what is answered to it.
--     answers_of c ss         the answers, in order
--     after_of c ss           what the store means afterwards
--     latest o i ss rs        what stands at i by the answers alone, where o stood first
--     Remembers c ss rs after the law of stores over a list of calls
use Rattle.std.specs.Prelude.{◌≡◌, ◌≢◌, IfErr, ℕ, ◌<◌, true, cond, ◌&&◌, List, [], ◌∷◌, length, take, Some, None, Ok, Err, Option, Result, ◌==◌, slice_index_or}
use Rattle.protocol.specs.Words.{code_number}
use Rattle.protocol.specs.declared.code.Code.{Code}
use Rattle.value.specs.declared.value.Value.{Value}
use Rattle.store.specs.Contents.{Contents, Element, Reading, typed, free, refused, found, inside, read_of, write_of}
use Rattle.store.specs.declared.step.Step.{Step}
use Rattle.store.specs.declared.step.Step.TheVariants as S

-- what a call was answered: a code, and the value that a read found; a write that was done has the code 0 alone
abbrev pub answered : Result (Option Value) Code → Reading
answered (Ok (Some v)) = record { code = 0; value = Some (typed v) }
answered (Ok None) = refused 0
answered (Err c) = refused (code_number c)

-- an answer that is an error bears a code other than done
abbrev pub BearsFault : Result (Option Value) Code → Type 0
BearsFault r = IfErr r (λ c. code_number c ≢ 0)

-- the answer to one call
abbrev pub answer_of : Contents → Step → Reading
answer_of c (S.Read i) = read_of c i
answer_of c (S.Write i v) = refused (write_of c i (typed v)).code

-- what the store means after one call
abbrev pub after_step : Contents → Step → Contents
after_step c (S.Read i) = c
after_step c (S.Write i v) = (write_of c i (typed v)).after

abbrev pub answers_of : Contents → List Step → List Reading
answers_of c [] = []
answers_of c (s ∷ ss) = answer_of c s ∷ answers_of (after_step c s) ss

abbrev pub after_of : Contents → List Step → Contents
after_of c [] = c
after_of c (s ∷ ss) = after_of (after_step c s) ss

-- what stands at i after a call with this answer, where o stood before: a write to i with code 0 leaves its value, all else leaves o
abbrev pub left_by : Option Element → ℕ → Step → Reading → Option Element
left_by o i (S.Read j) r = o
left_by o i (S.Write j v) r = cond (i == j && r.code == 0) (Some (free (typed v))) o

-- what stands at i after calls with these answers: what the last write to i with code 0 wrote, or else what stood there first
abbrev pub latest : Option Element → ℕ → List Step → List Reading → Option Element
latest o i [] rs = o
latest o i (s ∷ ss) [] = o
latest o i (s ∷ ss) (r ∷ rs) = latest (left_by o i s r) i ss rs

-- each element is what the last write to it with code 0 wrote or else what stood there first, and so was each read answered
pub record Remembers (c : Contents) (ss : List Step) (rs : List Reading) (after : Contents) : Type 0 where
  pub low : after.low ≡ c.low
  pub high : after.high ≡ c.high
  pub elements : (i : ℕ) → after.element i ≡ latest (c.element i) i ss rs
  pub reads : (n i : ℕ) (s : Step) (r : Reading) → n < length ss → slice_index_or ss n s ≡ S.Read i → inside c i ≡ true → slice_index_or rs n r ≡ found (latest (c.element i) i (take n ss) (take n rs))
