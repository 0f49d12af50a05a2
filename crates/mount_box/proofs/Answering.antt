-- Answers that a writer wrote.
--     read_answers, who_answers                  from what a store gave
--     length_codes                               a code for each write
--     few                                        what is counted is 10 at most
--     received_counted                           a message that was received has 1 to 10 groups
--     discovery_carries                          Discovery is answered in version 1.1
use Rattle.std.proofs.Common.{◌≡◌, ℕ, suc, ◌≤◌, Bool, true, false, cond, not, ◌&&◌, eqb, List, [], ◌∷◌, map, length, Some, None, Ok, Err, Option, Result, sym, refl, ap, ◌∙◌, subst, ap₂, arith, leb}
use Rattle.std.proofs.lemmas.List.{length-map}
use Rattle.std.proofs.lemmas.Bool.{and_from, and_parts, leb-true, le-leb}
use Rattle.protocol.specs.Words.{code_number}
use Rattle.protocol.specs.declared.code.Code.{Code}
use Rattle.protocol.specs.declared.code.Code.TheVariants as C
use Rattle.protocol.specs.declared.refusal.Refusal.{Refusal}
use Rattle.value.specs.declared.value.Value.{Value}
use Rattle.field.specs.declared.words.Version.{Version}
use Rattle.field.specs.declared.words.Version.TheVariants.{V10, V11}
use Rattle.field.specs.declared.words.Command.{Command}
use Rattle.field.specs.declared.words.Command.TheVariants.{Read, Write, Discovery}
use Rattle.packet.specs.Heads.{Goes}
use Rattle.packet.specs.Groups.{Readout, found, lacking}
use Rattle.packet.specs.Messages.{Message, discovery_request, read_answer, discovery_answer, command_of, count_of}
use Rattle.packet.proofs.Bounds.{bounded, goes}
use Rattle.writer.specs.Orders.{counted, readout_of, told, all_told, readings_allowed, answered}
use Rattle.writer.specs.Written.{written}
use Rattle.store.specs.Contents.{Contents, Element, inside, refused, reading, read_of}
use Rattle.store.specs.Contents as contents
use Rattle.store.specs.Owner.{write_text_of}
use Rattle.mount_box.specs.Answers.{Received, Answers, Carries}
use Rattle.mount_box.specs.Carrying.{coded, shown_by, shown, write_codes, who}

-- the code with the number of a code
coded_back : (code : Code) → coded (code_number code) ≡ code
coded_back C.Done = refl
coded_back C.NotFound = refl
coded_back C.WrongType = refl
coded_back C.OutsideLimits = refl

-- what a read gave is shown
read_shown : (c : Contents) (i : ℕ) (r : Result Value Code) → reading r ≡ read_of c i → readout_of r ≡ shown c i
read_shown c i (Ok v) e = ap (λ x. shown_by x.value x.code) e
read_shown c i (Err code) e = ap lacking (sym (coded_back code)) ∙ ap (λ x. shown_by x.value x.code) e

-- a value, or a code other than 0
abbrev Tells : Readout → Bool
Tells (found kind text) = true
Tells (lacking code) = not (eqb (code_number code) 0)

found_tells : (o : Option Element) → Tells (shown_by (contents.found o).value (contents.found o).code) ≡ true
found_tells None = refl
found_tells (Some e) = refl

shown_tells : (c : Contents) (i : ℕ) → Tells (shown c i) ≡ true
shown_tells c i = split (inside c i)
  where
    split : (b : Bool) → Tells (shown_by (cond b (contents.found (c.element i)) (refused 3)).value (cond b (contents.found (c.element i)) (refused 3)).code) ≡ true
    split true = found_tells (c.element i)
    split false = refl

told_as : (r : Result Value Code) → told r ≡ Tells (readout_of r)
told_as (Ok v) = refl
told_as (Err code) = refl

shown_told : (c : Contents) (i : ℕ) (r : Result Value Code) → readout_of r ≡ shown c i → told r ≡ true
shown_told c i r e = told_as r ∙ ap Tells e ∙ shown_tells c i

all_shown : (c : Contents) (rs : List (Result Value Code)) (is : List ℕ) → map readout_of rs ≡ map (shown c) is → all_told rs ≡ true
all_shown c [] is e = refl
all_shown c (r ∷ rs) [] e = absurd cc
all_shown c (r ∷ rs) (i ∷ is) e =
    let p : readout_of r ≡ shown c i = cc in
    let q : map readout_of rs ≡ map (shown c) is = cc in
    and_from _ _ (shown_told c i r p) (all_shown c rs is q)

counted_as : {X Y : Type 0} (xs : List X) (ys : List Y) → length xs ≡ length ys → counted xs ≡ true → counted ys ≡ true
counted_as xs ys e h = rw e at h

-- what is counted is 10 at most
pub few : {X : Type 0} (xs : List X) → counted xs ≡ true → length xs ≤ 10
few xs h = leb-true (length xs) 10 (and_parts (leb 1 (length xs)) (leb (length xs) 10) h).1

-- what reads in a store gave can be written
shown_allowed : (c : Contents) (rs : List (Result Value Code)) (is : List ℕ) → map readout_of rs ≡ map (shown c) is → counted is ≡ true → readings_allowed rs ≡ true
shown_allowed c rs is e h =
    let n : length is ≡ length rs = sym (length-map is (shown c)) ∙ sym (ap length e) ∙ length-map rs readout_of in
    and_from _ _ (counted_as is rs n h) (all_shown c rs is e)

-- what a writer did with an order that is allowed
answers_from : (allowed : Bool) (m n : Message) (r : Result ℕ Refusal) (before after : List ℕ) → allowed ≡ true → m ≡ n → r ≡ (written allowed m before).told → after ≡ (written allowed m before).row → Answers n r before after
answers_from allowed m n r before after a e t w =
    let all : written allowed m before ≡ written true n before = ap₂ (λ b x. written b x before) a e in
    record { told = t ∙ ap (λ x. x.told) all; row = w ∙ ap (λ x. x.row) all }

pub length_codes : (c : Contents) (ws : List (ℕ × List ℕ)) → length (write_codes c ws) ≡ length ws
length_codes c [] = refl
length_codes c (w ∷ ws) = ap suc (length_codes (write_text_of c w.0 w.1).after ws)

module _ (c : Contents) (version : Version) (number : ℕ) (r : Result ℕ Refusal) (before after : List ℕ) where
  -- the answer to a read
  pub read_answers : (rs : List (Result Value Code)) (is : List ℕ) → map readout_of rs ≡ map (shown c) is → counted is ≡ true
      → r ≡ (written (readings_allowed rs) (answered version number (read_answer (map readout_of rs))) before).told
      → after ≡ (written (readings_allowed rs) (answered version number (read_answer (map readout_of rs))) before).row
      → Answers (answered version number (read_answer (map (shown c) is))) r before after
  read_answers rs is e h t w =
      answers_from (readings_allowed rs) (answered version number (read_answer (map readout_of rs))) (answered version number (read_answer (map (shown c) is))) r before after
      (shown_allowed c rs is e h) (ap (λ xs. answered version number (read_answer xs)) e) t w

  -- the answer to Discovery
  pub who_answers : (x y : Result Value Code) → reading x ≡ read_of c 2 → reading y ≡ read_of c 3
      → r ≡ (written (told x && told y) (answered version number (discovery_answer (readout_of x ∷ readout_of y ∷ []))) before).told
      → after ≡ (written (told x && told y) (answered version number (discovery_answer (readout_of x ∷ readout_of y ∷ []))) before).row
      → Answers (answered version number (who c)) r before after
  who_answers x y d e t w =
      let p = read_shown c 2 x d in
      let q = read_shown c 3 y e in
      answers_from (told x && told y) (answered version number (discovery_answer (readout_of x ∷ readout_of y ∷ []))) (answered version number (who c)) r before after
      (and_from (told x) (told y) (shown_told c 2 x p) (shown_told c 3 y q)) (ap₂ (λ a b. answered version number (discovery_answer (a ∷ b ∷ []))) p q) t w

-- the groups of a message that was received
pub received_counted : {X : Type 0} (m : Message) (xs : List X) → Received m → count_of m.content ≡ length xs → counted xs ≡ true
received_counted m xs p e =
    let b = bounded p.0 m p.1 in
    let some : 1 ≤ count_of m.content = b.some in
    let few : count_of m.content ≤ 10 = b.few in
    and_from _ _ (le-leb 1 (length xs) (omega arith)) (le-leb (length xs) 10 (omega arith))

-- an answer to Discovery, which has version 1.1
-- Discovery is asked in version 1.1 alone
modern : (v : Version) (command : Command) → Goes v command → command ≡ Discovery → v ≡ V11
modern V11 command g e = refl
modern V10 Read g e = absurd cc
modern V10 Write g e = absurd cc
modern V10 Discovery g e = absurd g

pub discovery_carries : (c : Contents) (m : Message) (r : Result ℕ Refusal) (before after : List ℕ) → Received m → m.content ≡ discovery_request → Answers (answered V11 m.number (who c)) r before after → Carries c m r before after
discovery_carries c m r before after p d a =
    let v = modern m.version (command_of m.content) (goes p.0 m p.1) (ap command_of d) in
    let e : m ≡ answered V11 m.number discovery_request = λ t. record { version = v t; number = m.number; content = d t } in
    subst (λ x. Carries c x r before after) (sym e) a
