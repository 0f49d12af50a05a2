-- The messages that come of orders that are allowed are good.
use Rattle.std.proofs.Common.{◌≡◌, ℕ, ◌<◌, ◌≤◌, true, ◌&&◌, eqb, leb, List, [], ◌∷◌, ◌++◌, map, length, is_some, Some, None, Ok, Err, codes, Option, Result, unwrap_or, IfOk, Bool, Bor, sym, refl, ap, ◌∙◌, subst, arith}
use Rattle.std.specs.Option.{option_map}
use Rattle.std.specs.List.{AllByRecursion}
use Rattle.std.proofs.lemmas.List.{length-map}
use Rattle.std.proofs.lemmas.Bool.{and_parts, leb-true, eqb-false, not-true, false≢true}
use Rattle.protocol.specs.Held.{text_bytes}
use Rattle.protocol.specs.Texts.{textual}
use Rattle.protocol.specs.Words.{code_number}
use Rattle.protocol.specs.declared.code.Code.{Code}
use Rattle.protocol.specs.declared.text.Text.{Text}
use Rattle.value.specs.declared.value.Value.{Value}
use Rattle.field.specs.declared.words.Version.{Version}
use Rattle.field.specs.declared.words.Version.TheVariants.{V10, V11}
use Rattle.field.specs.declared.words.Command.TheVariants.{Read, Write}
use Rattle.packet.specs.Heads.{Goes}
use Rattle.packet.specs.Groups.{KeptWrite, KeptReadout}
use Rattle.field.specs.Words.{command_number}
use Rattle.packet.specs.Messages.{Message, Bounded, count_of, command_of, read_request, write_request, discovery_request, read_answer, write_answer, discovery_answer}
use Rattle.packet.proofs.Bounds.{not_discovery}
use Rattle.writer.specs.declared.change.Change.{Change}
use Rattle.writer.specs.Orders.{counted, change_of, all_texts, changes_allowed, readout_of, told, all_told, readings_allowed, asked, answered}
use Rattle.value.specs.Meant.{kind_of, datum_of}
use Rattle.value.specs.Values.{Valid, spelled}
use Rattle.std.specs.List.{flat_map}
use Rattle.std.specs.Iterator.{Drains}
use Rattle.std.specs.Slice.Iter.{iter_rest}
use Rattle.std.specs.declared.slice.Iter.{Iter}
use Rattle.std.proofs.iter.Yields.{fronts, gives_Drains, slice_gives}
use Rattle.std.proofs.ByRecursion.{All-map}
use Rattle.std.proofs.lemmas.Fmt.{decimal_digit}
use Rattle.std.proofs.lemmas.List.Folds.{flat_map-map}
use Rattle.protocol.specs.declared.refusal.Refusal.{Refusal}
use Rattle.writer.specs.Bytes.{content_fields, index_fields, readout_fields}
use Rattle.writer.specs.Drafts.{told_fields}
use Rattle.packet.specs.Groups.{found}
use Rattle.writer.specs.Written.{Wrote, Ruled, Spells}
use Rattle.writer.proofs.Goods.{Good, good}

counted_few : {X : Type 0} (xs : List X) → counted xs ≡ true → (1 ≤ length xs) × (length xs ≤ 10)
counted_few xs h = let p = and_parts (leb 1 (length xs)) (leb (length xs) 10) h in (leb-true _ _ p.0, leb-true _ _ p.1)

-- 1 to 10 groups, in no Discovery
bounded_few : {X : Type 0} (m : Message) (xs : List X) → m.number < 65536 → count_of m.content ≡ length xs → counted xs ≡ true → command_number (command_of m.content) < 3 → Bounded m
bounded_few m xs h l some below =
    let p = counted_few xs some in
    record { number = h; some = omega (arith, p.0); few = omega (arith, p.1); both = not_discovery below }

goes_read : (version : Version) → Goes version Read
goes_read V10 = tt
goes_read V11 = tt

goes_write : (version : Version) → Goes version Write
goes_write V10 = tt
goes_write V11 = tt

-- a message that keeps the rules is good
good_ruled : (m : Message) → Ruled m → Good m
good_ruled m r = good m r.bounded r.goes r.kept

pub ruled_indices : (n : ℕ) (is : List ℕ) → n < 65536 → AllByRecursion (λ i. i < 65536) is → counted is ≡ true → Ruled (asked n (read_request is))
ruled_indices n is h a some = record { bounded = bounded_few (asked n (read_request is)) is h refl some (omega arith); goes = tt; kept = a }

pub good_indices : (n : ℕ) (is : List ℕ) → n < 65536 → AllByRecursion (λ i. i < 65536) is → counted is ≡ true → Good (asked n (read_request is))
good_indices n is h a some = good_ruled _ (ruled_indices n is h a some)

pub ruled_codes : (version : Version) (n : ℕ) (cs : List Code) → n < 65536 → counted cs ≡ true → Ruled (answered version n (write_answer cs))
ruled_codes version n cs h some =
    record { bounded = bounded_few (answered version n (write_answer cs)) cs h refl some (omega arith); goes = goes_write version; kept = tt }

-- each change is a text at an index
change_textual : (o : Option Text) → is_some o ≡ true → textual (unwrap_or (option_map text_bytes o) []) ≡ true
change_textual None h = absurd (false≢true h)
change_textual (Some t) h = t.plain

kept_changes : (cs : List Change) → all_texts cs ≡ true → AllByRecursion (λ c. c.index < 65536) cs → AllByRecursion KeptWrite (map change_of cs)
kept_changes [] t a = tt
kept_changes (c ∷ cs) t a =
    let p = and_parts (is_some c.text) (all_texts cs) t in
    ((a.0, change_textual c.text p.0), kept_changes cs p.1 a.1)

pub ruled_changes : (n : ℕ) (cs : List Change) → n < 65536 → AllByRecursion (λ c. c.index < 65536) cs → changes_allowed cs ≡ true → Ruled (asked n (write_request (map change_of cs)))
ruled_changes n cs h a ok =
    let q = and_parts (counted cs) (all_texts cs) ok in
    record { bounded = bounded_few (asked n (write_request (map change_of cs))) cs h (length-map cs change_of) q.0 (omega arith); goes = tt; kept = kept_changes cs q.1 a }

unmapped : (cs : List Change) → AllByRecursion (λ w. w.0 < 65536) (map change_of cs) → AllByRecursion (λ c. c.index < 65536) cs
unmapped [] a = tt
unmapped (c ∷ cs) a = (a.0, unmapped cs a.1)

pub good_changes : (n : ℕ) (cs : List Change) → n < 65536 → AllByRecursion (λ w. w.0 < 65536) (map change_of cs) → changes_allowed cs ≡ true → Good (asked n (write_request (map change_of cs)))
good_changes n cs h a ok = good_ruled _ (ruled_changes n cs h (unmapped cs a) ok)

-- each reading is a value or a code other than 0
abbrev pub Fitting : Result Value Code → Type 0
Fitting x = IfOk x (λ v. Valid (kind_of v) (datum_of v))

kept_reading : (x : Result Value Code) → told x ≡ true → Fitting x → KeptReadout (readout_of x)
kept_reading (Ok v) t r = ap is_some r
kept_reading (Err code) t r = eqb-false (code_number code) 0 (not-true (eqb (code_number code) 0) t)

kept_readings : (xs : List (Result Value Code)) → all_told xs ≡ true → AllByRecursion Fitting xs → AllByRecursion KeptReadout (map readout_of xs)
kept_readings [] t a = tt
kept_readings (x ∷ xs) t a =
    let p = and_parts (told x) (all_told xs) t in
    (kept_reading x p.0 a.0, kept_readings xs p.1 a.1)

pub ruled_readings : (version : Version) (n : ℕ) (xs : List (Result Value Code)) → n < 65536 → AllByRecursion Fitting xs → readings_allowed xs ≡ true → Ruled (answered version n (read_answer (map readout_of xs)))
ruled_readings version n xs h a ok =
    let q = and_parts (counted xs) (all_told xs) ok in
    record { bounded = bounded_few (answered version n (read_answer (map readout_of xs))) xs h (length-map xs readout_of) q.0 (omega arith); goes = goes_read version; kept = kept_readings xs q.1 a }

pub ruled_discovered : (n : ℕ) (x y : Result Value Code) → n < 65536 → AllByRecursion Fitting (x ∷ y ∷ []) → (told x && told y) ≡ true → Ruled (answered V11 n (discovery_answer (readout_of x ∷ readout_of y ∷ [])))
ruled_discovered n x y h a t =
    let p = and_parts (told x) (told y) t in
    record { bounded = record { number = h; some = omega arith; few = omega arith; both = λ _. refl }; goes = tt; kept = (kept_reading x p.0 a.0, (kept_reading y p.1 a.1.0, tt)) }

pub ruled_discovery : Ruled (asked 0 discovery_request)
ruled_discovery = record { bounded = record { number = omega arith; some = omega arith; few = omega arith; both = λ _. refl }; goes = tt; kept = tt }

pub good_discovery : Good (asked 0 discovery_request)
good_discovery = good_ruled _ ruled_discovery

-- the two indices of a Discovery request are its fields
pub discovery_fields : flat_map index_fields (2 ∷ 3 ∷ []) ≡ codes "2" ∷ codes "3" ∷ []
discovery_fields = let two = decimal_digit 2 (omega arith) in let three = decimal_digit 3 (omega arith) in (λ i. two i ∷ three i ∷ [])

-- the fields of a reading are those of what is told of it
abbrev pub reading_fields : Result Value Code → List (List ℕ)
reading_fields = told_fields (λ v. readout_fields (found (kind_of v) (spelled (datum_of v))))

pub readings_same : (xs : List (Result Value Code)) → flat_map reading_fields xs ≡ flat_map readout_fields (map readout_of xs)
readings_same [] = refl
readings_same (Ok v ∷ xs) = ap (λ l. reading_fields (Ok v) ++ l) (readings_same xs)
readings_same (Err code ∷ xs) = ap (λ l. reading_fields (Err code) ++ l) (readings_same xs)

-- the groups of a slice, which a call took one by one
pub slice_spells : {X : Type 0} (s : Iter X) (fields : X → List (List ℕ)) (fits : X → Type 0) (all : List X) (allowed : Bool) (m : Message) (xs : List (Bor X)) → iter_rest s ≡ all → Drains fronts s xs → AllByRecursion (λ x. fits x.now) xs → flat_map fields all ≡ content_fields m.content → (AllByRecursion fits all → allowed ≡ true → Ruled m) → Spells (λ x. fields x.now) xs allowed m
slice_spells s fields fits all allowed m xs e d a same ruled =
    let is : map (λ y. y.now) xs ≡ all = gives_Drains fronts (λ y. y.now) xs (iter_rest s) s (slice_gives s) d ∙ e in
    record {
      same = sym (flat_map-map fields (λ y. y.now) xs) ∙ ap (flat_map fields) is ∙ same;
      ruled = ruled (subst (AllByRecursion fits) is (All-map fits (λ y. y.now) xs a));
    }

-- what a call tells, where its test answers what the order is
pub tested : {after : List ℕ} {answer : Result ℕ Refusal} (test allowed : Bool) (m : Message) (before : List ℕ) → test ≡ allowed → Wrote test m before after answer → Wrote allowed m before after answer
tested {after} {answer} test allowed m before e w = subst (λ b. Wrote b m before after answer) e w
