-- A message that was read, with each value in its one spelling.
--     respelled_same   a value's spelling writes the same value
--     rewrote          what is to be shown of a packet that was written again
use Rattle.std.proofs.Common.{◌≡◌, ℕ, ◌≤◌, true, cond, ltb, IfOk, List, [], ◌∷◌, ◌++◌, map, length, take, drop, is_some, Some, None, Ok, Err, Option, Result, unwrap_or, sym, refl, ap, ◌∙◌, subst, arith}
use Rattle.std.specs.Option.{option_map}
use Rattle.std.specs.List.{AllByRecursion}
use Rattle.std.proofs.ByRecursion.{All-map, All-weaker}
use Rattle.std.proofs.lemmas.List.{length-map}
use Rattle.std.proofs.lemmas.Bool.{false≢true, le-ltb}
use Rattle.protocol.specs.declared.kind.Kind.{Kind}
use Rattle.protocol.specs.declared.refusal.Refusal.TheVariants.{ShortMemory}
use Rattle.value.specs.Values.{Datum, value_read, spelled}
use Rattle.value.proofs.Readings.{read_valid}
use Rattle.field.specs.declared.words.Direction.{Direction}
use Rattle.field.specs.declared.words.Command.{Command}
use Rattle.packet.specs.Groups.{Readout, found, lacking, KeptReadout}
use Rattle.packet.specs.Heads.{Goes}
use Rattle.packet.specs.Messages.{Message, Content, read_request, write_request, discovery_request, read_answer, write_answer, discovery_answer, direction_of, command_of, count_of, Kept, with_ok, packet_of}
use Rattle.packet.proofs.Bounds.{bounded, kept, goes}
use Rattle.writer.specs.Again.{respelled, again_readout, again_content, again, value, readout_meant, groups_meant, meant, rewritten_as, rewritten}
use Rattle.writer.specs.Bytes.{content_fields, readout_fields, bytes_of}
use Rattle.writer.specs.Written.{refused, at_start, written, message_head, Ruled, Spells, Wrote}
use Rattle.std.specs.Iterator.{Drains}
use Rattle.std.specs.List.{flat_map}
use Rattle.std.proofs.iter.Yields.{gives_Drains, listed}
use Rattle.std.proofs.lemmas.List.Folds.{flat_map-map}
use Rattle.std.proofs.lemmas.List.{take_at}
use Rattle.protocol.specs.declared.code.Code.{Code}
use Rattle.protocol.specs.declared.refusal.Refusal.{Refusal}
use Rattle.field.specs.declared.part.Part.{Part}
use Rattle.packet.specs.declared.groups.Groups.{Groups}
use Rattle.packet.specs.declared.head.Head.{Head}
use Rattle.packet.specs.declared.readings.Found.{Found}
use Rattle.packet.specs.Cursors.{found_of, readout_of, HandsOut}
use Rattle.writer.specs.Drafts.{told_fields}

pub respelled_same : (kind : Kind) (text : List ℕ) → is_some (value_read kind text) ≡ true → value_read kind (respelled kind text) ≡ value_read kind text
respelled_same kind text h = split (value_read kind text) refl h
  where
    split : (o : Option Datum) → value_read kind text ≡ o → is_some o ≡ true → value_read kind (respelled kind text) ≡ value_read kind text
    split None e h = absurd (false≢true h)
    split (Some d) e h = ap (λ o. value_read kind (unwrap_or (option_map spelled o) [])) e ∙ read_valid kind text d e ∙ sym e

-- so a group again keeps its rule, means the same, and is its own spelling
kept_readout : (x : Readout) → KeptReadout x → KeptReadout (again_readout x)
kept_readout (found kind text) h = ap is_some (respelled_same kind text h) ∙ h
kept_readout (lacking code) h = h

same_readout : (x : Readout) → KeptReadout x → readout_meant (again_readout x) ≡ readout_meant x
same_readout (found kind text) h = ap (value kind) (respelled_same kind text h)
same_readout (lacking code) h = refl

once_readout : (x : Readout) → KeptReadout x → again_readout (again_readout x) ≡ again_readout x
once_readout (found kind text) h = ap (λ o. found kind (unwrap_or (option_map spelled o) [])) (respelled_same kind text h)
once_readout (lacking code) h = refl

map_twice : {X Y : Type 0} (P : X → Type 0) (f : X → X) (g : X → Y) → ((x : X) → P x → g (f x) ≡ g x) → (xs : List X) → AllByRecursion P xs → map g (map f xs) ≡ map g xs
map_twice P f g h [] a = refl
map_twice P f g h (x ∷ xs) a = (λ i. h x a.0 i ∷ map_twice P f g h xs a.1 i)

kept_readouts : (xs : List Readout) → AllByRecursion KeptReadout xs → AllByRecursion KeptReadout (map again_readout xs)
kept_readouts xs a = All-map KeptReadout again_readout xs (All-weaker KeptReadout (λ x. KeptReadout (again_readout x)) kept_readout xs a)

-- the same of all groups
pub kept_content : (content : Content) → Kept content → Kept (again_content content)
kept_content (read_request is) k = k
kept_content (write_request ws) k = k
kept_content discovery_request k = k
kept_content (read_answer xs) k = kept_readouts xs k
kept_content (write_answer cs) k = k
kept_content (discovery_answer xs) k = kept_readouts xs k

same_groups : (content : Content) → Kept content → groups_meant (again_content content) ≡ groups_meant content
same_groups (read_request is) k = refl
same_groups (write_request ws) k = refl
same_groups discovery_request k = refl
same_groups (read_answer xs) k = map_twice KeptReadout again_readout readout_meant same_readout xs k
same_groups (write_answer cs) k = refl
same_groups (discovery_answer xs) k = map_twice KeptReadout again_readout readout_meant same_readout xs k

once_content : (content : Content) → Kept content → again_content (again_content content) ≡ again_content content
once_content (read_request is) k = refl
once_content (write_request ws) k = refl
once_content discovery_request k = refl
once_content (read_answer xs) k = ap read_answer (map_twice KeptReadout again_readout again_readout once_readout xs k)
once_content (write_answer cs) k = refl
once_content (discovery_answer xs) k = ap discovery_answer (map_twice KeptReadout again_readout again_readout once_readout xs k)

pub same_direction : (content : Content) → direction_of (again_content content) ≡ direction_of content
same_direction (read_request is) = refl
same_direction (write_request ws) = refl
same_direction discovery_request = refl
same_direction (read_answer xs) = refl
same_direction (write_answer cs) = refl
same_direction (discovery_answer xs) = refl

pub same_command : (content : Content) → command_of (again_content content) ≡ command_of content
same_command (read_request is) = refl
same_command (write_request ws) = refl
same_command discovery_request = refl
same_command (read_answer xs) = refl
same_command (write_answer cs) = refl
same_command (discovery_answer xs) = refl

same_count : (content : Content) → count_of (again_content content) ≡ count_of content
same_count (read_request is) = refl
same_count (write_request ws) = refl
same_count discovery_request = refl
same_count (read_answer xs) = length-map xs again_readout
same_count (write_answer cs) = refl
same_count (discovery_answer xs) = length-map xs again_readout

pub same_meaning : (m : Message) → Kept m.content → meant (again m) ≡ meant m
same_meaning m k =
    let d = same_direction m.content in
    let c = same_command m.content in
    let g = same_groups m.content k in
    (λ i. record { version = m.version; direction = d i; number = m.number; command = c i; groups = g i })

pub again_once : (m : Message) → Kept m.content → again (again m) ≡ again m
again_once m k = ap (λ (c : Content). record { version = m.version; number = m.number; content = c }) (once_content m.content k)

-- a message that was read keeps the rules when it is written again
pub ruled_again : (bytes : List ℕ) (m : Message) → packet_of bytes ≡ Ok m → Ruled (again m)
ruled_again bytes m e =
    let b = bounded bytes m e in
    let n = same_count m.content in
    let c = same_command m.content in
    record {
      bounded = record { number = b.number; some = omega (arith, b.some); few = omega (arith, b.few); both = λ d. n ∙ b.both (sym c ∙ d) };
      goes = subst (Goes m.version) (sym c) (goes bytes m e);
      kept = kept_content m.content (kept bytes m e);
    }

-- its head, of what the packet tells
pub head_again : (m : Message) (direction : Direction) (command : Command) → direction ≡ direction_of m.content → command ≡ command_of m.content → ◌≡◌ {A = Head} (record { version = m.version; direction = direction; number = m.number; command = command }) (message_head (again m))
head_again m direction command d c =
    let d' = d ∙ sym (same_direction m.content) in
    let c' = c ∙ sym (same_command m.content) in
    (λ i. record { version = m.version; direction = d' i; number = m.number; command = c' i })

-- what a cursor handed out is what it had still to hand out
pub handed_out : {G A X : Type 0} (said : A → X) (part : A → Option Part) (left : Groups G → List X) (c : Groups G) (xs : List A) → Drains (HandsOut said part left) c xs → map said xs ≡ left c
handed_out said part left c xs d =
    gives_Drains (HandsOut said part left) said xs (left c) c (listed (HandsOut said part left) said left (λ s t h. ap length h.0.0) (λ s x t h. h.0) c) d

-- so its groups have the fields of the message's
pub cursor_spells : {G A X : Type 0} (said : A → X) (part : A → Option Part) (left : Groups G → List X) (c : Groups G) (f : X → List (List ℕ)) (m : Message) (xs : List A) → Drains (HandsOut said part left) c xs → flat_map f (left c) ≡ content_fields m.content → Ruled m → Spells (λ x. f (said x)) xs true m
cursor_spells said part left c f m xs d same ruled = record { same = sym (flat_map-map f said xs) ∙ ap (flat_map f) (handed_out said part left c xs d) ∙ same; ruled = λ _. ruled }

-- the fields of a reading that was read
abbrev pub read_fields : Result Found Code → List (List ℕ)
read_fields = told_fields (λ x. readout_fields (again_readout (found_of x)))

again_same : (xs : List (Result Found Code)) → flat_map read_fields xs ≡ flat_map readout_fields (map again_readout (map readout_of xs))
again_same [] = refl
again_same (Ok x ∷ xs) = ap (λ l. read_fields (Ok x) ++ l) (again_same xs)
again_same (Err code ∷ xs) = ap (λ l. read_fields (Err code) ++ l) (again_same xs)

pub readings_spell : {G : Type 0} (part : Result Found Code → Option Part) (left : Groups G → List Readout) (c : Groups G) (m : Message) (xs : List (Result Found Code)) → Drains (HandsOut readout_of part left) c xs → flat_map readout_fields (map again_readout (left c)) ≡ content_fields m.content → Ruled m → Spells read_fields xs true m
readings_spell part left c m xs d same ruled =
    record { same = again_same xs ∙ ap (λ l. flat_map readout_fields (map again_readout l)) (handed_out readout_of part left c xs d) ∙ same; ruled = λ _. ruled }

-- what is to be shown of writing again
pub record Rewrote (bytes before after : List ℕ) (answer : Result ℕ Refusal) : Type 0 where
  pub told : answer ≡ (rewritten bytes before).told
  pub row : after ≡ (rewritten bytes before).row
  pub back : IfOk answer (λ n. packet_of (take n after) ≡ with_ok again (packet_of bytes))
  pub short : IfOk answer (λ n. n ≤ 485)
  pub same : IfOk answer (λ n. with_ok meant (packet_of (take n after)) ≡ with_ok meant (packet_of bytes))
  pub once : IfOk answer (λ n. (other : List ℕ) → rewritten (take n after) other ≡ rewritten bytes other)

rewrote_at : {after : List ℕ} (bytes row : List ℕ) (m : Message) → packet_of bytes ≡ Ok m → 512 ≤ length row → Wrote true (again m) row after (Ok (length (bytes_of (again m)))) → Rewrote bytes row after (Ok (length (bytes_of (again m))))
rewrote_at {after = after} bytes row m e room w =
    let k = kept bytes m e in
    let end = length (bytes_of (again m)) in
    let is : written true (again m) row ≡ rewritten bytes row = ap (λ r. cond (ltb (length row) 512) (refused ShortMemory row) (rewritten_as r row)) (sym e) in
    let all : written true (again m) row ≡ at_start (bytes_of (again m)) row = rw (le-ltb (length row) 512 room) in
    let front : take end after ≡ bytes_of (again m) = ap (take end) (w.row ∙ ap (λ x. x.row) all) ∙ take_at (bytes_of (again m)) (drop end row) end refl in
    let reads : packet_of (take end after) ≡ Ok (again m) = ap packet_of front ∙ w.back.1 in
    record {
      told = w.told ∙ ap (λ x. x.told) is;
      row = w.row ∙ ap (λ x. x.row) is;
      back = reads ∙ sym (ap (with_ok again) e);
      short = w.back.0;
      same = ap (with_ok meant) reads ∙ ap Ok (same_meaning m k) ∙ sym (ap (with_ok meant) e);
      once = λ other.
          ap (λ r. cond (ltb (length other) 512) (refused ShortMemory other) (rewritten_as r other)) reads
          ∙ ap (λ x. cond (ltb (length other) 512) (refused ShortMemory other) (at_start (bytes_of x) other)) (again_once m k)
          ∙ ap (λ r. cond (ltb (length other) 512) (refused ShortMemory other) (rewritten_as r other)) (sym e);
    }

pub rewrote : {after : List ℕ} {answer : Result ℕ Refusal} (bytes row : List ℕ) (m : Message) → packet_of bytes ≡ Ok m → 512 ≤ length row → Wrote true (again m) row after answer → Rewrote bytes row after answer
rewrote {after = after} bytes row m e room w =
    let all : written true (again m) row ≡ at_start (bytes_of (again m)) row = rw (le-ltb (length row) 512 room) in
    let told = w.told ∙ ap (λ x. x.told) all in
    subst (Rewrote bytes row after) (sym told) (rewrote_at bytes row m e room (subst (Wrote true (again m) row after) told w))
