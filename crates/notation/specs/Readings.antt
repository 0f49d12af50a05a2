-- How the reading of a word goes.
use Rattle.std.specs.Prelude.{◌≡◌, ℕ, ◌<◌, List, [], length, Some, None, Ok, Err, Option, Result}
use Rattle.notation.specs.declared.trouble.Trouble.{Trouble}
use Rattle.notation.specs.declared.trouble.Trouble.TheVariants.{NotUnderstood, NoMemory}
use Rattle.notation.specs.Strings.{front, bytes_of}

-- it gives what the word means, and does not understand it just where it means nothing; or there is no memory
abbrev pub Understood : {X Y : Type 0} → (X → Y) → Option Y → Result X Trouble → Type 0
Understood view meaning (Ok x) = meaning ≡ Some (view x)
Understood view meaning (Err NotUnderstood) = meaning ≡ None
Understood view meaning (Err NoMemory) = Unit {0}

-- a sign stands in front of the rest of a word, for a byte in front of what the rest stands for, or for nothing; or the word is at its end
abbrev pub ReadsSign : List ℕ → Option (Result ℕ Trouble) → List ℕ → Type 0
ReadsSign word None rest = (word ≡ []) × (rest ≡ [])
ReadsSign word (Some (Ok b)) rest = (bytes_of word ≡ front b (bytes_of rest)) × (length rest < length word)
ReadsSign word (Some (Err NotUnderstood)) rest = (bytes_of word ≡ None) × (length rest < length word)
ReadsSign word (Some (Err NoMemory)) rest = ⊥
