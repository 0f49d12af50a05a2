-- What is written reads back: heads and groups.
use Rattle.std.proofs.Common.{◌≡◌, ℕ, zero, suc, ◌+◌, ◌-◌, ◌<◌, ◌≤◌, true, List, [], ◌∷◌, ◌++◌, length, drop, is_some, Some, None, Ok, Err, decimal, Option, Result, refl, ap, ◌∙◌, arith}
use Rattle.std.specs.Option.{option_map}
use Rattle.std.specs.List.{flat_map, AllByRecursion}
use Rattle.std.proofs.lemmas.Fmt.{decimal_digit}
use Rattle.std.proofs.lemmas.Bool.{eq-eqb, false≢true}
use Rattle.protocol.specs.Texts.{sized}
use Rattle.protocol.specs.Words.{kind_word, kind_named, code_number}
use Rattle.protocol.specs.declared.code.Code.{Code}
use Rattle.protocol.specs.declared.code.Code.TheVariants as C
use Rattle.protocol.specs.declared.kind.Kind.{Kind}
use Rattle.protocol.specs.declared.kind.Kind.TheVariants as K
use Rattle.protocol.specs.declared.refusal.Refusal.{Refusal}
use Rattle.protocol.specs.declared.refusal.Refusal.TheVariants as R
use Rattle.value.specs.Values.{Datum, value_read}
use Rattle.field.specs.Words.{version_word, direction_word, direction_named, command_number, command_numbered}
use Rattle.field.specs.Numerals.{numeral}
use Rattle.field.specs.declared.words.Version.{Version}
use Rattle.field.specs.declared.words.Version.TheVariants.{V10, V11}
use Rattle.field.specs.declared.words.Direction.{Direction}
use Rattle.field.specs.declared.words.Direction.TheVariants.{Request, Answer}
use Rattle.field.specs.declared.words.Command.{Command}
use Rattle.field.specs.declared.words.Command.TheVariants.{Read, Write, Discovery}
use Rattle.field.proofs.Digits.{numeral_decimal}
use Rattle.packet.specs.Heads.{head_of, version_beside, Goes}
use Rattle.packet.specs.Rules.{or_fault}
use Rattle.packet.specs.Groups.{index_group, write_group, code_group, reading_group, Readout, found, lacking, in_front, groups, KeptReadout}
use Rattle.packet.specs.declared.head.Head.{Head}
use Rattle.packet.proofs.Ahead.{groups_step}
use Rattle.writer.specs.Bytes.{head_fields, index_fields, write_fields, code_fields, readout_fields}

-- a group's fields read as the group, and as no more than it
pub record Reads {X : Type 0} (width : ℕ) (group : List (List ℕ) → Result X ℕ) (f : X → List (List ℕ)) (x : X) : Type 0 where
  pub is : (rest : List (List ℕ)) → group (f x ++ rest) ≡ Ok x
  pub over : (rest : List (List ℕ)) → drop width (f x ++ rest) ≡ rest

pub groups_back : {X : Type 0} (width : ℕ) (group : List (List ℕ) → Result X ℕ) (f : X → List (List ℕ)) → group [] ≡ Err 0 → (k least most : ℕ) (xs : List X) → AllByRecursion (Reads width group f) xs → least ≤ length xs → length xs ≤ most → groups width group k least (flat_map f xs) most ≡ Ok xs
groups_back width group f none k least most [] h low high = rw (eq-eqb least 0 (omega arith))
groups_back width group f none k least zero (x ∷ xs) h low high = absurd (omega arith)
groups_back width group f none k least (suc most) (x ∷ xs) h low high =
    groups_step width group none k least most (f x ++ flat_map f xs) x (h.0.is (flat_map f xs))
    ∙ ap (λ fs. in_front x (groups width group (k + width) (least - 1) fs most)) (h.0.over (flat_map f xs))
    ∙ ap (in_front x) (groups_back width group f none (k + width) (least - 1) most xs h.1 (omega arith) (omega arith))

pub reads_index : (i : ℕ) → i < 65536 → Reads 1 index_group index_fields i
reads_index i h = record { is = λ rest. rw (numeral_decimal 65535 i (omega arith) (omega arith)); over = λ rest. refl }

pub reads_code : (code : Code) → Reads 1 code_group code_fields code
reads_code C.Done = record { is = λ rest. rw (numeral_decimal 3 0 (omega arith) (omega arith)); over = λ rest. refl }
reads_code C.NotFound = record { is = λ rest. rw (numeral_decimal 3 1 (omega arith) (omega arith)); over = λ rest. refl }
reads_code C.WrongType = record { is = λ rest. rw (numeral_decimal 3 2 (omega arith) (omega arith)); over = λ rest. refl }
reads_code C.OutsideLimits = record { is = λ rest. rw (numeral_decimal 3 3 (omega arith) (omega arith)); over = λ rest. refl }

pub reads_write : (w : ℕ × List ℕ) → w.0 < 65536 → sized w.1 ≡ true → Reads 2 write_group write_fields w
reads_write w h s = record { is = λ rest. rw (numeral_decimal 65535 w.0 (omega arith) (omega arith), s); over = λ rest. refl }

-- the word of a type names it
kind_back : (kind : Kind) → kind_named (kind_word kind) ≡ Some kind
kind_back K.Bo = refl
kind_back K.In = refl
kind_back K.Sh = refl
kind_back K.USh = refl
kind_back K.Lo = refl
kind_back K.Si = refl
kind_back K.Do = refl
kind_back K.By = refl
kind_back K.St = refl

mapped_some : (o : Option Datum) (text : List ℕ) → is_some o ≡ true → option_map (λ _. text) o ≡ Some text
mapped_some None text h = absurd (false≢true h)
mapped_some (Some d) text h = refl

reads_found : (kind : Kind) (text : List ℕ) → is_some (value_read kind text) ≡ true → Reads 3 reading_group readout_fields (found kind text)
reads_found kind text h = record { is = λ rest. rw (kind_back kind, mapped_some (value_read kind text) text h); over = λ rest. refl }

reads_lacking : (code : Code) → (code_number code ≡ 0 → ⊥) → Reads 3 reading_group readout_fields (lacking code)
reads_lacking C.Done h = absurd (h refl)
reads_lacking C.NotFound h = record { is = λ rest. rw (numeral_decimal 3 1 (omega arith) (omega arith)); over = λ rest. refl }
reads_lacking C.WrongType h = record { is = λ rest. rw (numeral_decimal 3 2 (omega arith) (omega arith)); over = λ rest. refl }
reads_lacking C.OutsideLimits h = record { is = λ rest. rw (numeral_decimal 3 3 (omega arith) (omega arith)); over = λ rest. refl }

pub reads_readout : (x : Readout) → KeptReadout x → Reads 3 reading_group readout_fields x
reads_readout (found kind text) h = reads_found kind text h
reads_readout (lacking code) h = reads_lacking code h

-- the head, by what its fields are read as
parts : Option Version → Option Direction → Option ℕ → Option ℕ → Result Head Refusal
parts version direction number command =
    or_fault (R.Head 0) version (λ v.
    or_fault (R.Head 1) direction (λ d.
    or_fault (R.Head 2) number (λ n.
    or_fault (R.Head 3) command (λ m.
    or_fault (R.Command 3) (command_numbered m) (λ c.
    Ok (record { version = v; direction = d; number = n; command = c }))))))

version_back : (version : Version) (command : Command) → Goes version command → version_beside (Some (decimal (command_number command))) (Some (version_word version)) ≡ Some version
version_back V11 command g = refl
version_back V10 Read g = rw (decimal_digit 1 (omega arith))
version_back V10 Write g = rw (decimal_digit 2 (omega arith))
version_back V10 Discovery g = absurd g

direction_back : (direction : Direction) → direction_named (direction_word direction) ≡ Some direction
direction_back Request = refl
direction_back Answer = refl

command_back : (command : Command) → numeral 255 (decimal (command_number command)) ≡ Some (command_number command)
command_back Read = numeral_decimal 255 1 (omega arith) (omega arith)
command_back Write = numeral_decimal 255 2 (omega arith) (omega arith)
command_back Discovery = numeral_decimal 255 3 (omega arith) (omega arith)

numbered_back : (command : Command) → command_numbered (command_number command) ≡ Some command
numbered_back Read = refl
numbered_back Write = refl
numbered_back Discovery = refl

pub head_back : (version : Version) (direction : Direction) (number : ℕ) (command : Command) (rest : List (List ℕ)) → number < 65536 → Goes version command → head_of (head_fields version direction number command ++ rest) ≡ Ok (record { version = version; direction = direction; number = number; command = command })
unfolding parts
head_back version direction number command rest h g =
    let p = version_back version command g in
    let q = direction_back direction in
    let r = numeral_decimal 65535 number (omega arith) (omega arith) in
    let s = command_back command in
    (λ i. parts (p i) (q i) (r i) (s i)) ∙ ap (λ o. or_fault (R.Command 3) o (λ c. Ok (record { version = version; direction = direction; number = number; command = c }))) (numbered_back command)
