-- Messages that can be written and are read back.
--     Good m        what is to be shown of a message
--     good_back     it is read back
--     good_size     and has at most 485 bytes
--     good          a message is good if its groups keep their rules
use Rattle.std.proofs.Common.{◌≡◌, ℕ, ◌*◌, ◌<◌, ◌≤◌, Bool, true, subst, List, [], ◌∷◌, ◌++◌, length, drop, pos, is_some, Some, None, Ok, Err, codes, decimal, Option, Result, sym, refl, ap, ◌∙◌, arith, length-append, rules}
use Rattle.std.specs.List.{flat_map, AllByRecursion}
use Rattle.std.proofs.ByRecursion.{IsAscii-from_all, All-append, All-weaker}
use Rattle.std.proofs.lemmas.Fmt.{length-decimal-le}
use Rattle.std.proofs.lemmas.Str.{IsUtf8-from_ascii}
use Rattle.protocol.specs.Words.{kind_word, code_number}
use Rattle.protocol.specs.declared.code.Code.{Code}
use Rattle.protocol.specs.declared.code.Code.TheVariants as C
use Rattle.protocol.specs.declared.kind.Kind.{Kind}
use Rattle.protocol.specs.declared.kind.Kind.TheVariants as K
use Rattle.value.proofs.Signs.{signed_textual}
use Rattle.field.specs.Words.{version_word, direction_word, command_number}
use Rattle.field.specs.declared.words.Version.{Version}
use Rattle.field.specs.declared.words.Version.TheVariants.{V10, V11}
use Rattle.field.specs.declared.words.Direction.{Direction}
use Rattle.field.specs.declared.words.Direction.TheVariants.{Request, Answer}
use Rattle.field.specs.declared.words.Command.{Command}
use Rattle.field.specs.declared.words.Command.TheVariants.{Read, Write, Discovery}
use Rattle.packet.specs.Heads.{Goes}
use Rattle.packet.specs.Messages.{Message, Content, Bounded, Kept, count_of, direction_of, command_of, content_by, message_by, after_head, after_frame, packet_of, read_request, write_request, discovery_request, read_answer, write_answer, discovery_answer, with_ok}
use Rattle.writer.specs.Bytes.{head_fields, content_fields, message_fields, colon, parted, bytes_of, index_fields, write_fields, code_fields, readout_fields}
use Rattle.writer.specs.declared.draft.Draft.{Draft}
use Rattle.writer.specs.Drafts.{Puts}
use Rattle.writer.specs.Written.{at_start, written, Wrote, message_head, Spells}
use Rattle.std.proofs.lemmas.List.Concat.{flat_map-append}
use Rattle.writer.proofs.Drafts.{parted_more, puts_as, puts_packet, puts_whole}
use Rattle.packet.specs.declared.head.Head.{Head}
use Rattle.packet.proofs.Pieces.{Piece}
use Rattle.writer.proofs.Clean.{clean_textual, fields_parted, plain_parted, text_parted, fields_body}
use Rattle.writer.proofs.Backs.{head_back, Reads, groups_back, reads_index, reads_write, reads_code, reads_readout}
use Rattle.std.proofs.lemmas.Bool.{and_parts, false≢true, le-ltb}
use Rattle.protocol.specs.Texts.{free, sized, textual}
use Rattle.protocol.proofs.PlainText.{few}
use Rattle.value.specs.Values.{Datum, value_read}
use Rattle.value.proofs.Readings.{read_textual}
use Rattle.packet.specs.Groups.{index_group, write_group, code_group, reading_group, Readout, found, lacking, groups, KeptWrite, KeptReadout}

pub record Good (m : Message) : Type 0 where
  pub number : m.number < 65536
  pub goes : Goes m.version (command_of m.content)
  pub clean : AllByRecursion Piece (content_fields m.content)
  pub reads : content_by (direction_of m.content) (command_of m.content) (content_fields m.content) ≡ Ok m.content
  pub small : length (flat_map colon (content_fields m.content)) ≤ 470

pub clean_ascii : (f : List ℕ) → free f ≡ true → AllByRecursion (λ b. b < 128) f → Piece f
clean_ascii f b a = record { bare = b; text = IsUtf8-from_ascii f (IsAscii-from_all f a) }

pub clean_decimal : (n : ℕ) → n < 65536 → Piece (decimal n)
clean_decimal n h = clean_textual (decimal n) (signed_textual (pos n) (record { sfits = omega arith }))

clean_version : (version : Version) → Piece (version_word version)
clean_version V10 = clean_ascii (codes "1.0") refl (search rules)
clean_version V11 = clean_ascii (codes "1.1") refl (search rules)

clean_direction : (direction : Direction) → Piece (direction_word direction)
clean_direction Request = clean_ascii (codes "R") refl (search rules)
clean_direction Answer = clean_ascii (codes "A") refl (search rules)

clean_command : (command : Command) → Piece (decimal (command_number command))
clean_command Read = clean_decimal 1 (omega arith)
clean_command Write = clean_decimal 2 (omega arith)
clean_command Discovery = clean_decimal 3 (omega arith)

-- the fields of the head
head_clean : (version : Version) (direction : Direction) (n : ℕ) (command : Command) → n < 65536 → AllByRecursion Piece (head_fields version direction n command)
head_clean version direction n command h = (clean_version version, (clean_direction direction, (clean_decimal n h, (clean_command command, tt))))

pub five : (n : ℕ) → n < 65536 → length (decimal n) ≤ 5
five n h = length-decimal-le 5 n (omega arith) (omega arith) (omega arith)

version_three : (version : Version) → length (version_word version) ≡ 3
version_three V10 = refl
version_three V11 = refl

direction_one : (direction : Direction) → length (direction_word direction) ≡ 1
direction_one Request = refl
direction_one Answer = refl

command_one : (command : Command) → length (decimal (command_number command)) ≤ 1
command_one Read = length-decimal-le 1 1 (omega arith) (omega arith) (omega arith)
command_one Write = length-decimal-le 1 2 (omega arith) (omega arith) (omega arith)
command_one Discovery = length-decimal-le 1 3 (omega arith) (omega arith) (omega arith)

head_size : (version : Version) (direction : Direction) (n : ℕ) (command : Command) → n < 65536 → length (parted (head_fields version direction n command)) ≤ 13
head_size version direction n command h =
    let v = version_word version in
    let d = direction_word direction in
    let k = decimal n in
    let c = decimal (command_number command) in
    omega (arith, version_three version, direction_one direction, five n h, command_one command, length-append v (flat_map colon (d ∷ k ∷ c ∷ [])), length-append d (flat_map colon (k ∷ c ∷ [])), length-append k (flat_map colon (c ∷ [])), length-append c [])

module _ (m : Message) (g : Good m) where
  parted_size : length (parted (message_fields m)) ≤ 483
  parted_size =
      let hf = head_fields m.version (direction_of m.content) m.number (command_of m.content) in
      let e = ap length (parted_more (version_word m.version) (drop 1 hf) (content_fields m.content)) in
      omega (arith, e, length-append (parted hf) (flat_map colon (content_fields m.content)), g.small, head_size m.version (direction_of m.content) m.number (command_of m.content) g.number)

  pub good_size : length (bytes_of m) ≤ 485
  good_size = omega (arith, parted_size, length-append (parted (message_fields m)) (125 ∷ []))

  all_clean : AllByRecursion Piece (message_fields m)
  all_clean = All-append Piece (head_fields m.version (direction_of m.content) m.number (command_of m.content)) (content_fields m.content) (head_clean m.version (direction_of m.content) m.number (command_of m.content) g.number) g.clean

  pub good_back : packet_of (bytes_of m) ≡ Ok m
  good_back =
      let fs = message_fields m in
      let body = fields_body (parted fs) (omega (arith, parted_size)) (plain_parted fs all_clean) (text_parted fs all_clean) in
      let same = fields_parted (version_word m.version) (drop 1 fs) all_clean in
      let head = head_back m.version (direction_of m.content) m.number (command_of m.content) (content_fields m.content) g.number g.goes in
      ap after_frame (body ∙ ap Ok same)
      ∙ ap (after_head (content_fields m.content)) head
      ∙ ap (message_by (record { version = m.version; direction = direction_of m.content; number = m.number; command = command_of m.content })) g.reads

-- what is to be shown of one group
pub record Fine {X : Type 0} (width : ℕ) (group : List (List ℕ) → Result X ℕ) (f : X → List (List ℕ)) (x : X) : Type 0 where
  pub clean : AllByRecursion Piece (f x)
  pub reads : Reads width group f x
  pub small : length (flat_map colon (f x)) ≤ 47

fine_index : (i : ℕ) → i < 65536 → Fine 1 index_group index_fields i
fine_index i h = record { clean = (clean_decimal i h, tt); reads = reads_index i h; small = omega (arith, five i h, length-append (decimal i) []) }

code_small : (code : Code) → code_number code < 10
code_small C.Done = omega arith
code_small C.NotFound = omega arith
code_small C.WrongType = omega arith
code_small C.OutsideLimits = omega arith

code_one : (code : Code) → length (decimal (code_number code)) ≤ 1
code_one code = length-decimal-le 1 (code_number code) (omega arith) (omega (arith, code_small code)) (omega (arith, code_small code))

clean_code : (code : Code) → Piece (decimal (code_number code))
clean_code code = clean_decimal (code_number code) (omega (arith, code_small code))

pub fine_code : (code : Code) → Fine 1 code_group code_fields code
fine_code code = record { clean = (clean_code code, tt); reads = reads_code code; small = omega (arith, code_one code, length-append (decimal (code_number code)) []) }

fine_write : (w : ℕ × List ℕ) → KeptWrite w → Fine 2 write_group write_fields w
fine_write w k =
    let h = k.0 in
    let t = k.1 in
    record {
      clean = (clean_decimal w.0 h, (clean_textual w.1 t, tt));
      reads = reads_write w h (and_parts (sized w.1) _ t).0;
      small = omega (arith, five w.0 h, few w.1 t, length-append (decimal w.0) (flat_map colon (w.1 ∷ [])), length-append w.1 []);
    }

clean_kind : (kind : Kind) → Piece (kind_word kind)
clean_kind K.Bo = clean_ascii (codes "Bo") refl (search rules)
clean_kind K.In = clean_ascii (codes "In") refl (search rules)
clean_kind K.Sh = clean_ascii (codes "Sh") refl (search rules)
clean_kind K.USh = clean_ascii (codes "USh") refl (search rules)
clean_kind K.Lo = clean_ascii (codes "Lo") refl (search rules)
clean_kind K.Si = clean_ascii (codes "Si") refl (search rules)
clean_kind K.Do = clean_ascii (codes "Do") refl (search rules)
clean_kind K.By = clean_ascii (codes "By") refl (search rules)
clean_kind K.St = clean_ascii (codes "St") refl (search rules)

kind_three : (kind : Kind) → length (kind_word kind) ≤ 3
kind_three K.Bo = omega arith
kind_three K.In = omega arith
kind_three K.Sh = omega arith
kind_three K.USh = omega arith
kind_three K.Lo = omega arith
kind_three K.Si = omega arith
kind_three K.Do = omega arith
kind_three K.By = omega arith
kind_three K.St = omega arith

some_textual : (kind : Kind) (text : List ℕ) (o : Option Datum) → value_read kind text ≡ o → is_some o ≡ true → textual text ≡ true
some_textual kind text None e h = absurd (false≢true h)
some_textual kind text (Some d) e h = read_textual kind text d e

pub fine_readout : (x : Readout) → KeptReadout x → Fine 3 reading_group readout_fields x
fine_readout (found kind text) h =
    let t = some_textual kind text (value_read kind text) refl h in
    record {
      clean = (clean_ascii (codes "0") refl (search rules), (clean_kind kind, (clean_textual text t, tt)));
      reads = reads_readout (found kind text) h;
      small = omega (arith, kind_three kind, few text t, length-append (kind_word kind) (flat_map colon (text ∷ [])), length-append text []);
    }
fine_readout (lacking code) h =
    record {
      clean = (clean_code code, (clean_ascii (codes "Nil") refl (search rules), (clean_ascii (codes "0") refl (search rules), tt)));
      reads = reads_readout (lacking code) h;
      small = omega (arith, code_one code, length-append (decimal (code_number code)) (flat_map colon (codes "Nil" ∷ codes "0" ∷ [])));
    }

all_of : {X : Type 0} (P : X → Type 0) → ((x : X) → P x) → (xs : List X) → AllByRecursion P xs
all_of P h [] = tt
all_of P h (x ∷ xs) = (h x, all_of P h xs)

-- what is to be shown of a payload
record Payload (content : Content) : Type 0 where
  clean : AllByRecursion Piece (content_fields content)
  reads : content_by (direction_of content) (command_of content) (content_fields content) ≡ Ok content
  small : length (flat_map colon (content_fields content)) ≤ 470

-- all groups of a payload, which are fine and few
record Together {X : Type 0} (width : ℕ) (group : List (List ℕ) → Result X ℕ) (f : X → List (List ℕ)) (least most : ℕ) (xs : List X) : Type 0 where
  clean : AllByRecursion Piece (flat_map f xs)
  reads : groups width group 4 least (flat_map f xs) most ≡ Ok xs
  small : length (flat_map colon (flat_map f xs)) ≤ 470

module _ {X : Type 0} (width : ℕ) (group : List (List ℕ) → Result X ℕ) (f : X → List (List ℕ)) where
  fine_clean : (xs : List X) → AllByRecursion (Fine width group f) xs → AllByRecursion Piece (flat_map f xs)
  fine_clean [] h = tt
  fine_clean (x ∷ xs) h = All-append Piece (f x) (flat_map f xs) h.0.clean (fine_clean xs h.1)

  fine_small : (xs : List X) → AllByRecursion (Fine width group f) xs → length (flat_map colon (flat_map f xs)) ≤ 47 * length xs
  fine_small [] h = omega arith
  fine_small (x ∷ xs) h = omega (arith, ap length (flat_map-append colon (f x) (flat_map f xs)), length-append (flat_map colon (f x)) (flat_map colon (flat_map f xs)), h.0.small, fine_small xs h.1)

  together : group [] ≡ Err 0 → (least most : ℕ) (xs : List X) → AllByRecursion (Fine width group f) xs → least ≤ length xs → length xs ≤ most → most ≤ 10 → Together width group f least most xs
  together none least most xs fine low high few =
      record {
        clean = fine_clean xs fine;
        reads = groups_back width group f none 4 least most xs (All-weaker (Fine width group f) (Reads width group f) (λ x h. h.reads) xs fine) low high;
        small = omega (arith, fine_small xs fine);
      }

payload : (content : Content) → 1 ≤ count_of content → count_of content ≤ 10 → (command_of content ≡ Discovery → count_of content ≡ 2) → Kept content → Payload content
payload (read_request is) low high both k =
    let t = together 1 index_group index_fields refl 1 10 is (All-weaker (λ i. i < 65536) (Fine 1 index_group index_fields) fine_index is k) low high (omega arith) in
    record { clean = t.clean; reads = ap (with_ok read_request) t.reads; small = t.small }
payload (write_request ws) low high both k =
    let t = together 2 write_group write_fields refl 1 10 ws (All-weaker KeptWrite (Fine 2 write_group write_fields) fine_write ws k) low high (omega arith) in
    record { clean = t.clean; reads = ap (with_ok write_request) t.reads; small = t.small }
payload discovery_request low high both k =
    record {
      clean = (clean_ascii (codes "2") refl (search rules), (clean_ascii (codes "3") refl (search rules), tt));
      reads = refl;
      small = omega arith;
    }
payload (read_answer xs) low high both k =
    let t = together 3 reading_group readout_fields refl 1 10 xs (All-weaker KeptReadout (Fine 3 reading_group readout_fields) fine_readout xs k) low high (omega arith) in
    record { clean = t.clean; reads = ap (with_ok read_answer) t.reads; small = t.small }
payload (write_answer cs) low high both k =
    let t = together 1 code_group code_fields refl 1 10 cs (all_of (Fine 1 code_group code_fields) fine_code cs) low high (omega arith) in
    record { clean = t.clean; reads = ap (with_ok write_answer) t.reads; small = t.small }
payload (discovery_answer xs) low high both k =
    let two = both refl in
    let t = together 3 reading_group readout_fields refl 2 2 xs (All-weaker KeptReadout (Fine 3 reading_group readout_fields) fine_readout xs k) (omega (arith, two)) (omega (arith, two)) (omega arith) in
    record { clean = t.clean; reads = ap (with_ok discovery_answer) t.reads; small = t.small }

pub good : (m : Message) → Bounded m → Goes m.version (command_of m.content) → Kept m.content → Good m
good m b g k =
    let p = payload m.content b.some b.few b.both k in
    record { number = b.number; goes = g; clean = p.clean; reads = p.reads; small = p.small }

-- a message that keeps its rules was put into a draft, part by part
pub wrote : {G : Type 0} {d₀ d₁ d₂ d₃ : Draft} (fields : G → List (List ℕ)) (groups : List G) (allowed : Bool) (head : Head) (m : Message) (row after : List ℕ) (len : ℕ) → head ≡ message_head m → Spells fields groups allowed m → allowed ≡ true → 512 ≤ length row → d₀.row.now ≡ row → d₀.at ≡ 0 → Puts d₀ (123 ∷ parted (head_fields head.version head.direction head.number head.command)) d₁ → Puts d₁ (flat_map colon (flat_map fields groups)) d₂ → Puts d₂ (125 ∷ []) d₃ → after ≡ d₃.row.now → len ≡ d₃.at → Wrote allowed m row after (Ok len)
wrote {d₀ = d₀} {d₁ = d₁} {d₂ = d₂} {d₃ = d₃} fields groups allowed head m row after len h s t room new at p q r e l =
    let k = s.ruled t in
    let g = good m k.bounded k.goes k.kept in
    let size = good_size m g in
    let front = subst (λ (k : Head). Puts d₀ (123 ∷ parted (head_fields k.version k.direction k.number k.command)) d₁) h p in
    let middle = puts_as _ _ (ap (flat_map colon) s.same) q in
    let whole = puts_packet (version_word m.version) (drop 1 (head_fields m.version (direction_of m.content) m.number (command_of m.content))) (content_fields m.content) front middle r in
    let done = puts_whole (bytes_of m) whole at (omega (arith, ap length new)) in
    let all : written allowed m row ≡ at_start (bytes_of m) row = rw (le-ltb (length row) 512 room, t) in
    let is : len ≡ length (bytes_of m) = l ∙ done.here in
    record {
      told = ap Ok is ∙ sym (ap (λ w. w.told) all);
      row = e ∙ done.whole ∙ ap (λ r. bytes_of m ++ drop (length (bytes_of m)) r) new ∙ sym (ap (λ w. w.row) all);
      back = (omega (arith, is), good_back m g);
    }
