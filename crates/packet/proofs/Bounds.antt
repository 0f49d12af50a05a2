-- What holds of every packet that is read.
--     bounded   its number is one of 16 bits, and it has 1 to 10 groups
--     kept      each of its groups keeps its rule
--     goes      its version goes with its command
use Rattle.std.proofs.Common.{◌≡◌, ℕ, zero, suc, ◌+◌, ◌-◌, ◌<◌, ◌≤◌, true, cond, ◌&&◌, eqb, leb, List, [], ◌∷◌, length, drop, is_some, Some, None, Ok, Err, codes, decimal, Option, Result, sym, refl, ap, ◌∙◌, subst, ⊎_elim, arith}
use Rattle.std.specs.Option.{option_map}
use Rattle.std.specs.Str.Parse.{digits_value}
use Rattle.std.specs.List.{AllByRecursion}
use Rattle.std.proofs.lemmas.Fmt.{decimal_digit, decimal-digits_value}
use Rattle.std.proofs.ByRecursion.{All-drop}
use Rattle.std.proofs.lemmas.Slice.Eq.{bytes_eq-Decides}
use Rattle.std.proofs.lemmas.Bool.Decides.{nat_tests}
use Rattle.std.proofs.lemmas.Bool.{and_parts, and_from, cases_Bool, eqb-true, leb-true}
use Rattle.protocol.specs.Texts.{sized, textual}
use Rattle.protocol.specs.Words.{kind_named, code_number}
use Rattle.protocol.specs.declared.code.Code.{Code}
use Rattle.protocol.specs.declared.code.Code.TheVariants as C
use Rattle.protocol.specs.declared.kind.Kind.{Kind}
use Rattle.protocol.specs.declared.refusal.Refusal.{Refusal}
use Rattle.protocol.specs.declared.refusal.Refusal.TheVariants as R
use Rattle.protocol.proofs.Digits.{own}
use Rattle.protocol.proofs.PlainText.{utf8_decides}
use Rattle.value.specs.Values.{Datum, value_read}
use Rattle.field.specs.Fields.{first}
use Rattle.field.specs.Frames.{fields_of}
use Rattle.field.specs.Numerals.{whole, numeral}
use Rattle.field.specs.Words.{version_named, direction_named, command_number, command_numbered}
use Rattle.field.specs.declared.words.Version.{Version}
use Rattle.field.specs.declared.words.Version.TheVariants.{V10, V11}
use Rattle.field.specs.declared.words.Direction.{Direction}
use Rattle.field.specs.declared.words.Direction.TheVariants.{Request, Answer}
use Rattle.field.specs.declared.words.Command.{Command}
use Rattle.field.specs.declared.words.Command.TheVariants.{Read, Write, Discovery}
use Rattle.field.proofs.Digits.{Whole, from_whole}
use Rattle.packet.specs.declared.head.Head.{Head}
use Rattle.packet.specs.Heads.{head_of, not_old, version_beside, Goes}
use Rattle.packet.specs.Rules.{then, ruled, or_fault, is_word, sized_text, code_of, value_text}
use Rattle.packet.specs.Groups.{index_group, write_group, code_group, reading_group, Readout, found, lacking, found_by, lacking_by, readout_by, or_within, in_front, groups, discovery_of, KeptWrite, KeptReadout}
use Rattle.packet.specs.Messages.{Content, Message, read_request, write_request, discovery_request, read_answer, write_answer, discovery_answer, command_of, count_of, with_ok, content_by, message_by, after_head, after_frame, packet_of, Bounded, Kept}
use Rattle.packet.proofs.Pieces.{Piece, passed_on, frame_pieces}

-- what a rule was made of
pub then_some : {X Y : Type 0} (o : Option X) (rule : X → Option Y) (y : Y) → then o rule ≡ Some y → (x : X) × ((o ≡ Some x) × (rule x ≡ Some y))
then_some None rule y e = cc
then_some (Some x) rule y e = (x, (refl, e))

pub no_fault : {X Y E : Type 0} (fault : E) (o : Option X) (next : X → Result Y E) (y : Y) → or_fault fault o next ≡ Ok y → (x : X) × ((o ≡ Some x) × (next x ≡ Ok y))
no_fault fault None next y e = cc
no_fault fault (Some x) next y e = (x, (refl, e))

made_ok : {X Y E : Type 0} (f : X → Y) (r : Result X E) (y : Y) → with_ok f r ≡ Ok y → (x : X) × ((r ≡ Ok x) × (f x ≡ y))
made_ok f (Err e) y h = cc
made_ok f (Ok x) y h = (x, (refl, cc))

ok_same : {X E : Type 0} (x y : X) → ◌≡◌ {A = Result X E} (Ok x) (Ok y) → x ≡ y
ok_same x y e = cc

some_same : {X : Type 0} (x y : X) → Some x ≡ Some y → x ≡ y
some_same x y e = cc

-- what a numeral is
pub record Spelt (top : ℕ) (ds : List ℕ) (n : ℕ) : Type 0 where
  pub digits : Whole ds
  pub is : digits_value 10 ds ≡ n
  pub most : n ≤ top

pub spelt : (top : ℕ) (ds : List ℕ) (n : ℕ) → numeral top ds ≡ Some n → Spelt top ds n
spelt top ds n e =
    ⊎_elim
    (λ t. let p = and_parts (whole ds) (leb (digits_value 10 ds) top) t in
    let is : digits_value 10 ds ≡ n = some_same (digits_value 10 ds) n (rw t at e) in
    record { digits = from_whole ds p.0; is = is; most = omega (arith, leb-true _ _ p.1) })
    (λ t. let s : None ≡ Some n = rw t at e in cc)
    (cases_Bool (whole ds && leb (digits_value 10 ds) top))

ruled_numeral : (top : ℕ) (field : Option (List ℕ)) (n : ℕ) → ruled (numeral top) field ≡ Some n → n ≤ top
ruled_numeral top field n e = let p = then_some field (numeral top) n e in (spelt top p.0 n p.1.1).most

module _ {X : Type 0} (width : ℕ) (group : List (List ℕ) → Result X ℕ) where
  -- how many groups are read
  few_step : (k least most : ℕ) (r : Result X ℕ) (s : Result (List X) ℕ) (xs : List X) → ((ys : List X) → s ≡ Ok ys → (least - 1 ≤ length ys) × (length ys ≤ most)) → or_within k r (λ x. in_front x s) ≡ Ok xs → (least ≤ length xs) × (length xs ≤ suc most)
  few_step k least most (Err place) s xs h e = cc
  few_step k least most (Ok x) (Err field) xs h e = cc
  few_step k least most (Ok x) (Ok ys) xs h e =
      let p = h ys refl in
      let l : length (x ∷ ys) ≡ length xs = ap length (ok_same (x ∷ ys) xs e) in
      (omega (arith, p.0), omega (arith, p.1))

  pub groups_few : (k least : ℕ) (fs : List (List ℕ)) (most : ℕ) (xs : List X) → groups width group k least fs most ≡ Ok xs → (least ≤ length xs) × (length xs ≤ most)
  groups_few k least [] most xs e =
      let p = passed_on (eqb least 0) (Ok []) k xs e in
      let z : least ≡ 0 = eqb-true least 0 p.0 in
      let l : 0 ≡ length xs = ap length (ok_same [] xs p.1) in
      (omega arith, omega arith)
  groups_few k least (f ∷ fs) zero xs e = cc
  groups_few k least (f ∷ fs) (suc most) xs e =
      few_step k least most (group (f ∷ fs)) (groups width group (k + width) (least - 1) (drop width (f ∷ fs)) most) xs
      (λ ys h. groups_few (k + width) (least - 1) (drop width (f ∷ fs)) most ys h) e

  -- each of them is read from fields that are the packet's
  module _ (P : X → Type 0) (one : (fs : List (List ℕ)) (x : X) → AllByRecursion Piece fs → group fs ≡ Ok x → P x) where
    each_step : (k : ℕ) (fs : List (List ℕ)) (r : Result X ℕ) (s : Result (List X) ℕ) (xs : List X) → group fs ≡ r → AllByRecursion Piece fs → ((ys : List X) → s ≡ Ok ys → AllByRecursion P ys) → or_within k r (λ x. in_front x s) ≡ Ok xs → AllByRecursion P xs
    each_step k fs (Err place) s xs g a h e = cc
    each_step k fs (Ok x) (Err field) xs g a h e = cc
    each_step k fs (Ok x) (Ok ys) xs g a h e = subst (AllByRecursion P) (ok_same (x ∷ ys) xs e) (one fs x a g, h ys refl)

    pub groups_each : (k least : ℕ) (fs : List (List ℕ)) (most : ℕ) (xs : List X) → AllByRecursion Piece fs → groups width group k least fs most ≡ Ok xs → AllByRecursion P xs
    groups_each k least [] most xs a e =
        let p = passed_on (eqb least 0) (Ok []) k xs e in
        subst (AllByRecursion P) (ok_same [] xs p.1) tt
    groups_each k least (f ∷ fs) zero xs a e = cc
    groups_each k least (f ∷ fs) (suc most) xs a e =
        each_step k (f ∷ fs) (group (f ∷ fs)) (groups width group (k + width) (least - 1) (drop width (f ∷ fs)) most) xs refl a
        (λ ys h. groups_each (k + width) (least - 1) (drop width (f ∷ fs)) most ys (All-drop Piece width (f ∷ fs) a) h) e

first_all : {X : Type 0} (P : X → Type 0) (xs : List X) (x : X) → AllByRecursion P xs → first xs ≡ Some x → P x
first_all P [] x a e = cc
first_all P (y ∷ xs) x a e = subst P (some_same y x e) a.0

-- what the rules give
index_kept : (fs : List (List ℕ)) (i : ℕ) → index_group fs ≡ Ok i → i < 65536
index_kept fs i e =
    let p = no_fault 0 (ruled (numeral 65535) (first fs)) Ok i e in
    let m = ruled_numeral 65535 (first fs) p.0 p.1.0 in
    let s : p.0 ≡ i = ok_same p.0 i p.1.1 in
    omega arith

sized_same : (field text : List ℕ) → sized_text field ≡ Some text → (sized field ≡ true) × (field ≡ text)
sized_same field text e = ⊎_elim
    (λ t. let s : Some field ≡ Some text = rw t at e in (t, some_same field text s))
    (λ t. let s : None ≡ Some text = rw t at e in cc)
    (cases_Bool (sized field))

piece_textual : (f : List ℕ) → Piece f → sized f ≡ true → textual f ≡ true
piece_textual f p s = and_from _ _ s (and_from _ _ p.bare ((utf8_decides f).1 p.text))

write_kept : (fs : List (List ℕ)) (w : ℕ × List ℕ) → AllByRecursion Piece fs → write_group fs ≡ Ok w → KeptWrite w
write_kept fs w a e =
    let p = no_fault 0 (ruled (numeral 65535) (first fs)) _ w e in
    let q = no_fault 1 (ruled sized_text (first (drop 1 fs))) _ w p.1.1 in
    let m = ruled_numeral 65535 (first fs) p.0 p.1.0 in
    let t = then_some (first (drop 1 fs)) sized_text q.0 q.1.0 in
    let s = sized_same t.0 q.0 t.1.1 in
    let piece = first_all Piece (drop 1 fs) t.0 (All-drop Piece 1 fs a) t.1.0 in
    subst KeptWrite (ok_same (p.0, q.0) w q.1.1) (omega arith, subst (λ f. textual f ≡ true) s.1 (piece_textual t.0 piece s.0))

value_same : (kind : Kind) (field text : List ℕ) → value_text kind field ≡ Some text → is_some (value_read kind text) ≡ true
value_same kind field text e = split (value_read kind field) refl e
  where
    split : (o : Option Datum) → value_read kind field ≡ o → option_map (λ _. field) o ≡ Some text → is_some (value_read kind text) ≡ true
    split None r e = cc
    split (Some d) r e = ap (λ f. is_some (value_read kind f)) (sym (some_same field text e)) ∙ ap is_some r

found_kept : (word text : Option (List ℕ)) (x : Readout) → found_by word text ≡ Ok x → KeptReadout x
found_kept word text x e =
    let p = no_fault 1 (ruled kind_named word) _ x e in
    let q = no_fault 2 (ruled (value_text p.0) text) _ x p.1.1 in
    let t = then_some text (value_text p.0) q.0 q.1.0 in
    subst KeptReadout (ok_same (found p.0 q.0) x q.1.1) (value_same p.0 t.0 q.0 t.1.1)

lacking_kept : (code : Code) (word text : Option (List ℕ)) (x : Readout) → (code_number code ≡ 0 → ⊥) → lacking_by code word text ≡ Ok x → KeptReadout x
lacking_kept code word text x h e =
    let p = passed_on (is_word (codes "Nil") word) (cond (is_word (codes "0") text) (Ok (lacking code)) (Err 2)) 1 x e in
    let q = passed_on (is_word (codes "0") text) (Ok (lacking code)) 2 x p.1 in
    subst KeptReadout (ok_same (lacking code) x q.1) h

readout_kept : (code : Code) (word text : Option (List ℕ)) (x : Readout) → readout_by code word text ≡ Ok x → KeptReadout x
readout_kept C.Done word text x e = found_kept word text x e
readout_kept C.NotFound word text x e = lacking_kept C.NotFound word text x (λ z. omega arith) e
readout_kept C.WrongType word text x e = lacking_kept C.WrongType word text x (λ z. omega arith) e
readout_kept C.OutsideLimits word text x e = lacking_kept C.OutsideLimits word text x (λ z. omega arith) e

reading_kept : (fs : List (List ℕ)) (x : Readout) → reading_group fs ≡ Ok x → KeptReadout x
reading_kept fs x e =
    let p = no_fault 0 (ruled code_of (first fs)) (λ c. readout_by c (first (drop 1 fs)) (first (drop 2 fs))) x e in
    readout_kept p.0 (first (drop 1 fs)) (first (drop 2 fs)) x p.1.1

-- a payload that is read
record Payload (command : Command) (content : Content) : Type 0 where
  about : command_of content ≡ command
  some : 1 ≤ count_of content
  few : count_of content ≤ 10
  both : command_of content ≡ Discovery → count_of content ≡ 2
  kept : Kept content

pub not_discovery : {P : Type 0} {command : Command} → command_number command < 3 → command ≡ Discovery → P
not_discovery l e = absurd (omega (arith, ap command_number e))

payload : (direction : Direction) (command : Command) (fs : List (List ℕ)) (content : Content) → AllByRecursion Piece fs → content_by direction command fs ≡ Ok content → Payload command content
payload Request Read fs content a e =
    let p = made_ok read_request (groups 1 index_group 4 1 fs 10) content e in
    let n = groups_few 1 index_group 4 1 fs 10 p.0 p.1.0 in
    let k = groups_each 1 index_group (λ i. i < 65536) (λ gs i _ g. index_kept gs i g) 4 1 fs 10 p.0 a p.1.0 in
    subst (Payload Read) p.1.1 (record { about = refl; some = n.0; few = n.1; both = not_discovery (omega arith); kept = k })
payload Request Write fs content a e =
    let p = made_ok write_request (groups 2 write_group 4 1 fs 10) content e in
    let n = groups_few 2 write_group 4 1 fs 10 p.0 p.1.0 in
    let k = groups_each 2 write_group KeptWrite write_kept 4 1 fs 10 p.0 a p.1.0 in
    subst (Payload Write) p.1.1 (record { about = refl; some = n.0; few = n.1; both = not_discovery (omega arith); kept = k })
payload Request Discovery fs content a e =
    let p = made_ok (λ _. discovery_request) (discovery_of fs) content e in
    subst (Payload Discovery) p.1.1 (record { about = refl; some = omega arith; few = omega arith; both = λ _. refl; kept = tt })
payload Answer Read fs content a e =
    let p = made_ok read_answer (groups 3 reading_group 4 1 fs 10) content e in
    let n = groups_few 3 reading_group 4 1 fs 10 p.0 p.1.0 in
    let k = groups_each 3 reading_group KeptReadout (λ gs x _ g. reading_kept gs x g) 4 1 fs 10 p.0 a p.1.0 in
    subst (Payload Read) p.1.1 (record { about = refl; some = n.0; few = n.1; both = not_discovery (omega arith); kept = k })
payload Answer Write fs content a e =
    let p = made_ok write_answer (groups 1 code_group 4 1 fs 10) content e in
    let n = groups_few 1 code_group 4 1 fs 10 p.0 p.1.0 in
    subst (Payload Write) p.1.1 (record { about = refl; some = n.0; few = n.1; both = not_discovery (omega arith); kept = tt })
payload Answer Discovery fs content a e =
    let p = made_ok discovery_answer (groups 3 reading_group 4 2 fs 2) content e in
    let n = groups_few 3 reading_group 4 2 fs 2 p.0 p.1.0 in
    let k = groups_each 3 reading_group KeptReadout (λ gs x _ g. reading_kept gs x g) 4 2 fs 2 p.0 a p.1.0 in
    subst (Payload Discovery) p.1.1 (record { about = refl; some = omega (arith, n.0); few = omega (arith, n.1); both = λ _. omega (arith, n.0, n.1); kept = k })

-- the command 3 is the word 3
three : (field : List ℕ) → numeral 255 field ≡ Some 3 → is_word (codes "3") (Some field) ≡ true
three field e =
    let n = spelt 255 field 3 e in
    let w = n.digits in
    let d = decimal-digits_value own field w.digits w.some (λ z. omega (arith, w.lead z, w.some)) (omega (arith, n.is)) in
    (bytes_eq-Decides field (codes "3")).1 (sym d ∙ ap decimal n.is ∙ decimal_digit 3 (omega arith))

numbered_three : (m : ℕ) → command_numbered m ≡ Some Discovery → m ≡ 3
numbered_three m e = grind (arith, nat_tests)

goes_by : (command : Option (List ℕ)) (named v : Version) (m : ℕ) (c : Command) → not_old command named ≡ Some v → ruled (numeral 255) command ≡ Some m → command_numbered m ≡ Some c → Goes v c
goes_by command named V11 m c e f g = tt
goes_by command named V10 m Read e f g = tt
goes_by command named V10 m Write e f g = tt
goes_by command V11 V10 m Discovery e f g = cc
goes_by command V10 V10 m Discovery e f g =
    let p = then_some command (numeral 255) m f in
    let t : is_word (codes "3") command ≡ true = ap (is_word (codes "3")) p.1.0 ∙ three p.0 (p.1.1 ∙ ap Some (numbered_three m g)) in
    let n : None ≡ Some V10 = rw t at e in
    cc

-- a head that is read
record Headed (head : Head) : Type 0 where
  number : head.number < 65536
  goes : Goes head.version head.command

headed : (fs : List (List ℕ)) (head : Head) → head_of fs ≡ Ok head → Headed head
headed fs head e =
    let a = no_fault (R.Head 0) (version_beside (first (drop 3 fs)) (first fs)) _ head e in
    let b = no_fault (R.Head 1) (ruled direction_named (first (drop 1 fs))) _ head a.1.1 in
    let c = no_fault (R.Head 2) (ruled (numeral 65535) (first (drop 2 fs))) _ head b.1.1 in
    let d = no_fault (R.Head 3) (ruled (numeral 255) (first (drop 3 fs))) _ head c.1.1 in
    let f = no_fault (R.Command 3) (command_numbered d.0) _ head d.1.1 in
    let v = then_some (ruled version_named (first fs)) (not_old (first (drop 3 fs))) a.0 a.1.0 in
    let m = ruled_numeral 65535 (first (drop 2 fs)) c.0 c.1.0 in
    subst Headed (ok_same _ head f.1.1) (record { number = omega arith; goes = goes_by (first (drop 3 fs)) v.0 a.0 d.0 f.0 v.1.1 d.1.0 f.1.0 })

-- what a packet that is read is made of
pub record Parts (m : Message) : Type 0 where
  pub fields : List (List ℕ)
  pub head : Head
  pub pieces : AllByRecursion Piece fields
  pub head_is : head_of fields ≡ Ok head
  pub content_is : content_by head.direction head.command (drop 4 fields) ≡ Ok m.content
  pub message_is : m ≡ record { version = head.version; number = head.number; content = m.content }

pub parts : (bytes : List ℕ) (m : Message) → packet_of bytes ≡ Ok m → Parts m
parts bytes m e = framed_parts (fields_of bytes) refl e
  where
    with_content : (fs : List (List ℕ)) (head : Head) → AllByRecursion Piece fs → head_of fs ≡ Ok head → (r : Result Content ℕ) → content_by head.direction head.command (drop 4 fs) ≡ r → message_by head r ≡ Ok m → Parts m
    with_content fs head a h (Err field) c e = cc
    with_content fs head a h (Ok content) c e =
        let s = ok_same (record { version = head.version; number = head.number; content = content }) m e in
        let t = ap (λ x. x.content) s in
        record { fields = fs; head = head; pieces = a; head_is = h; content_is = c ∙ ap Ok t; message_is = sym s ∙ ap (λ x. record { version = head.version; number = head.number; content = x }) t }

    with_head : (fs : List (List ℕ)) → AllByRecursion Piece fs → (r : Result Head Refusal) → head_of fs ≡ r → after_head (drop 4 fs) r ≡ Ok m → Parts m
    with_head fs a (Err refusal) h e = cc
    with_head fs a (Ok head) h e = with_content fs head a h (content_by head.direction head.command (drop 4 fs)) refl e

    framed_parts : (r : Result (List (List ℕ)) Refusal) → fields_of bytes ≡ r → after_frame r ≡ Ok m → Parts m
    framed_parts (Err refusal) f e = cc
    framed_parts (Ok fs) f e = with_head fs (frame_pieces bytes fs f) (head_of fs) refl e

module _ (bytes : List ℕ) (m : Message) (e : packet_of bytes ≡ Ok m) where
  whole_payload : Payload (parts bytes m e).head.command m.content
  whole_payload =
      let p = parts bytes m e in
      payload p.head.direction p.head.command (drop 4 p.fields) m.content (All-drop Piece 4 p.fields p.pieces) p.content_is

  pub bounded : Bounded m
  bounded =
      let p = parts bytes m e in
      let c = whole_payload in
      let n = (headed p.fields p.head p.head_is).number in
      let s : m.number ≡ p.head.number = ap (λ x. x.number) p.message_is in
      record { number = omega arith; some = c.some; few = c.few; both = c.both }

  pub kept : Kept m.content
  kept = whole_payload.kept

  pub goes : Goes m.version (command_of m.content)
  goes =
      let p = parts bytes m e in
      let h = headed p.fields p.head p.head_is in
      let v : p.head.version ≡ m.version = sym (ap (λ x. x.version) p.message_is) in
      let c : p.head.command ≡ command_of m.content = sym whole_payload.about in
      subst (λ x. Goes x (command_of m.content)) v (subst (Goes p.head.version) c h.goes)
