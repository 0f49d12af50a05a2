-- One field after the other.
use Rattle.std.proofs.Common.{◌≡◌, ℕ, ◌+◌, ◌≤◌, List, [], ◌∷◌, length, drop, Some, None, Ok, Err, Option, Result, OnOk, MatchOption, sym, subst, refl, ap, ◌∙◌, arith, length-drop}
use Rattle.std.specs.Option.{option_map}
use Rattle.std.specs.Iterator.{Yields}
use Rattle.std.proofs.lemmas.List.{drop-drop, drop_all}
use Rattle.protocol.specs.declared.refusal.Refusal.{Refusal}
use Rattle.field.specs.declared.part.Part.{Part}
use Rattle.field.specs.declared.fields.Fields.{Fields}
use Rattle.field.specs.Fields.{first}
use Rattle.field.specs.Parts.{part_bytes, fields_left, Hands, Onward, HandsOut}
use Rattle.packet.specs.declared.head.Head.{Head}
use Rattle.packet.specs.Heads.{head_by, head_of}
use Rattle.packet.specs.Groups.{Readout, reading_by, reading_group}

-- field n is handed out, where n were handed out before
pub turn : (all : List (List ℕ)) (n : ℕ) (s t : Fields) (r : Option Part) → fields_left s ≡ drop n all → HandsOut s r t → (option_map part_bytes r ≡ first (drop n all)) × (fields_left t ≡ drop (n + 1) all)
turn all n s t None e h = (ap first (sym h.0.0 ∙ e), h.0.1 ∙ sym (ap (drop 1) h.0.0) ∙ ap (drop 1) e ∙ drop-drop 1 n all)
turn all n s t (Some x) e h = (ap first (sym h.0 ∙ e), sym (ap (drop 1) h.0) ∙ ap (drop 1) e ∙ drop-drop 1 n all)

pub head_from : {h : Result Head Refusal} (fs : List (List ℕ)) (v d n m : Option (List ℕ)) → h ≡ head_by v d n m → v ≡ first fs → d ≡ first (drop 1 fs) → n ≡ first (drop 2 fs) → m ≡ first (drop 3 fs) → h ≡ head_of fs
head_from fs v d n m told p q r s = told ∙ (λ i. head_by (p i) (q i) (r i) (s i))

pub reading_from : {x : Result Readout ℕ} (fs : List (List ℕ)) (code word text : Option (List ℕ)) → x ≡ reading_by code word text → code ≡ first fs → word ≡ first (drop 1 fs) → text ≡ first (drop 2 fs) → x ≡ reading_group fs
reading_from fs code word text told p q r = told ∙ (λ i. reading_by (p i) (q i) (r i))

-- a cursor that went on twice went on
pub onward_twice : (a b c : Fields) → Onward a b → Onward b c → Onward a c
onward_twice a b c h k packet within = k packet (h packet within)

-- what holds anyway holds where a value is there
pub on_ok : {X E P : Type 0} (r : Result X E) → P → OnOk r P
on_ok (Ok x) p = p
on_ok (Err e) p = tt

-- a cursor that went on over many fields
pub went_on : (s t : Fields) (xs : List Part) → Yields HandsOut s xs t → (fields_left t ≡ drop (length xs) (fields_left s)) × Onward s t
went_on s t [] e = subst (λ u. (fields_left u ≡ fields_left s) × Onward s u) e (refl, λ packet within. within)
went_on s t (x ∷ xs) h =
    let k = went_on h.0 t xs h.2 in
    (k.0 ∙ sym (ap (drop (length (x ∷ xs))) h.1.0), onward_twice s h.0 t h.1.2 k.1)

-- field n of those that are left
pub field_at : (s t u : Fields) (n : ℕ) (r : Option Part) (xs : List Part) → Yields HandsOut s xs t → HandsOut t r u → MatchOption r (length xs ≤ n) (λ _. length xs ≡ n) → (option_map part_bytes r ≡ first (drop n (fields_left s))) × Hands s r
field_at s t u n None xs h k m =
    let w = went_on s t xs h in
    let e : drop (length xs) (fields_left s) ≡ [] = sym w.0 ∙ k.0.0 in
    (ap first (sym (drop_all n (fields_left s) (omega (arith, ap length e, length-drop (length xs) (fields_left s))))), λ packet within. tt)
field_at s t u n (Some x) xs h k m =
    let w = went_on s t xs h in
    (ap first (sym k.0 ∙ w.0 ∙ ap (λ i. drop i (fields_left s)) m), λ packet within. k.1 packet (w.1 packet within))
