-- Which wishes are ready.
use Rattle.std.specs.Prelude.{ℕ, cond, List, Some, None, Ok, Err, Option, Result}
use Rattle.protocol.specs.Held.{text_bytes}
use Rattle.protocol.specs.Texts.{textual}
use Rattle.sky.specs.Names.{place_of}
use Rattle.sky.specs.declared.star.Star.{Star}
use Rattle.pointing.specs.declared.wishes.WishTrouble.{WishTrouble}
use Rattle.pointing.specs.declared.wishes.WishTrouble.TheVariants.{NoText, Unknown}

-- what becomes of a wish
pub data Answer : Type 0 where
  ready : ℕ → Answer
  no_text : Answer
  unknown : List ℕ → Answer

abbrev pub seen_wish : Result ℕ WishTrouble → Answer
seen_wish (Ok place) = ready place
seen_wish (Err NoText) = no_text
seen_wish (Err (Unknown name)) = unknown (text_bytes name)

abbrev pub if_known : List ℕ → Option ℕ → Answer
if_known name None = unknown name
if_known name (Some place) = ready place

-- a wish is ready if it is a text that names a star
abbrev pub judged_wish : List Star → List ℕ → Answer
judged_wish stars line = cond (textual line) (if_known line (place_of line stars)) no_text
