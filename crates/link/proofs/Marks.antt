-- Whether a handling leaves the contents of the store as they were can be told from the elements that it asks to write.
--     stays b s p    so it tells
--     marked         it is true just where the contents stay
use Rattle.std.proofs.Common.{◌≡◌, ℕ, Bool, true, false, cond, ◌&&◌, ◌||◌, eqb, ◌↔◌, List, [], ◌∷◌, get_or, drop, ℤ, pos, negsuc, Some, None, Ok, Err, Option, Result, sym, refl, ap, ◌∙◌, subst}
use Rattle.std.specs.Str.{bytes_eq}
use Rattle.std.proofs.lemmas.Slice.Eq.{bytes_eq-Decides}
use Rattle.std.proofs.lemmas.Bool.{and_parts, and_from, or_parts, eqb-true, eqb-false, ne_eqb}
use Rattle.protocol.specs.Words.{kind_number}
use Rattle.protocol.specs.declared.refusal.Refusal.{Refusal}
use Rattle.packet.specs.Messages.{Message, Content, read_request, write_request, discovery_request, read_answer, write_answer, discovery_answer, packet_of}
use Rattle.value.specs.Values.{Datum, truth, whole, real, words}
use Rattle.store.specs.Contents.{Contents, Element, Writing}
use Rattle.store.specs.Owner.{write_text_of}
use Rattle.store.proofs.Wrote.{kind_same}
use Rattle.store.proofs.Texted.{Texted, turned, taken, own_texted}
use Rattle.mount_box.specs.Carrying.{after_writes, left_by}
use Rattle.mount_box.specs.Handling.{Box, Handling, handled}
use Rattle.link.specs.Carryings.{writes_in}
use Rattle.link.proofs.Basics.{same_self}
use Rattle.link.proofs.Handlings.{Handled, turns, shows, again, carries_out, handled_view}

-- values as numbers, and back
abbrev bit : Bool → ℕ
bit v = cond v 1 0

bit_back : (v : Bool) → eqb (bit v) 1 ≡ v
bit_back true = refl
bit_back false = refl

abbrev signed_numbers : ℤ → List ℕ
signed_numbers (pos n) = 0 ∷ n ∷ []
signed_numbers (negsuc n) = 1 ∷ n ∷ []

abbrev from_signed : List ℕ → ℤ
from_signed xs = cond (eqb (get_or xs 0 0) 0) (pos (get_or xs 1 0)) (negsuc (get_or xs 1 0))

signed_back : (z : ℤ) → from_signed (signed_numbers z) ≡ z
signed_back (pos n) = refl
signed_back (negsuc n) = refl

abbrev datum_numbers : Datum → List ℕ
datum_numbers (truth v) = 0 ∷ bit v ∷ []
datum_numbers (whole z) = 1 ∷ signed_numbers z
datum_numbers (real x) = 2 ∷ bit x.negative ∷ x.digits ∷ signed_numbers x.exponent
datum_numbers (words bs) = 3 ∷ bs

abbrev from_datum : List ℕ → Datum
from_datum xs =
    cond (eqb (get_or xs 0 0) 0) (truth (eqb (get_or xs 1 0) 1))
    (cond (eqb (get_or xs 0 0) 1) (whole (from_signed (drop 1 xs)))
    (cond (eqb (get_or xs 0 0) 2) (real (record { negative = eqb (get_or xs 1 0) 1; digits = get_or xs 2 0; exponent = from_signed (drop 3 xs) }))
    (words (drop 1 xs))))

datum_back : (d : Datum) → from_datum (datum_numbers d) ≡ d
datum_back (truth v) = ap truth (bit_back v)
datum_back (whole z) = ap whole (signed_back z)
datum_back (real x) = ap real (λ i. record { negative = bit_back x.negative i; digits = x.digits; exponent = signed_back x.exponent i })
datum_back (words bs) = refl

-- what stands at an index, as numbers
abbrev element_numbers : Option Element → List ℕ
element_numbers None = []
element_numbers (Some e) = kind_number e.kind ∷ bit e.fixed ∷ datum_numbers e.datum

element_same : (o p : Option Element) → element_numbers o ≡ element_numbers p → o ≡ p
element_same None None h = refl
element_same None (Some f) h = cc
element_same (Some e) None h = cc
element_same (Some e) (Some f) h =
    let k = kind_same e.kind f.kind (cc) in
    let b : bit e.fixed ≡ bit f.fixed = cc in
    let x = sym (bit_back e.fixed) ∙ ap (λ (n : ℕ). eqb n 1) b ∙ bit_back f.fixed in
    let n : datum_numbers e.datum ≡ datum_numbers f.datum = cc in
    let d = sym (datum_back e.datum) ∙ ap from_datum n ∙ datum_back f.datum in
    ap Some (λ i. record { kind = k i; datum = d i; fixed = x i })

-- two stores have the same elements at the indices of these writes
abbrev same_on : (ℕ → Option Element) → (ℕ → Option Element) → List (ℕ × List ℕ) → Bool
same_on f g [] = true
same_on f g (w ∷ ws) = bytes_eq (element_numbers (f w.0)) (element_numbers (g w.0)) && same_on f g ws

same_on_self : (f : ℕ → Option Element) (ws : List (ℕ × List ℕ)) → same_on f f ws ≡ true
same_on_self f [] = refl
same_on_self f (w ∷ ws) = and_from _ _ (same_self (element_numbers (f w.0))) (same_on_self f ws)

-- j is the index of one of these writes
abbrev named : ℕ → List (ℕ × List ℕ) → Bool
named j [] = false
named j (w ∷ ws) = eqb j w.0 || named j ws

same_named : (f g : ℕ → Option Element) (ws : List (ℕ × List ℕ)) (j : ℕ) → same_on f g ws ≡ true → named j ws ≡ true → f j ≡ g j
same_named f g [] j h n = cc
same_named f g (w ∷ ws) j h n =
    let p = and_parts (bytes_eq (element_numbers (f w.0)) (element_numbers (g w.0))) (same_on f g ws) h in
    go (same_named f g ws j p.1) p.0 (eqb j w.0) refl n
  where
    go : (named j ws ≡ true → f j ≡ g j) → bytes_eq (element_numbers (f w.0)) (element_numbers (g w.0)) ≡ true → (v : Bool) → eqb j w.0 ≡ v → (v || named j ws) ≡ true → f j ≡ g j
    go ih s false e n = ih n
    go ih s true e n = subst (λ (q : ℕ). f q ≡ g q) (sym (eqb-true j w.0 e)) (element_same (f w.0) (g w.0) ((bytes_eq-Decides _ _).0 s))

-- a write leaves the limits and every other element
record Framed (c : Contents) (i : ℕ) (d : Contents) : Type 0 where
  low : d.low ≡ c.low
  high : d.high ≡ c.high
  other : (j : ℕ) → eqb j i ≡ false → d.element j ≡ c.element j

text_framed : (c : Contents) (i : ℕ) (text : List ℕ) {w : Writing} → Texted c i text w → Framed c i w.after
text_framed c i text (turned n e) = record { low = refl; high = refl; other = λ j d. refl }
text_framed c i text (taken t v e h at free r) = record { low = refl; high = refl; other = λ j d. rw (ne_eqb i j (λ z. eqb-false j i d (sym z))) refl }

writes_limits : (ws : List (ℕ × List ℕ)) (c : Contents) → ((after_writes c ws).low ≡ c.low) × ((after_writes c ws).high ≡ c.high)
writes_limits [] c = (refl, refl)
writes_limits (w ∷ ws) c =
    let x = text_framed c w.0 w.1 (own_texted c w.0 w.1) in
    let i = writes_limits ws (write_text_of c w.0 w.1).after in
    (i.0 ∙ x.low, i.1 ∙ x.high)

writes_other : (ws : List (ℕ × List ℕ)) (c : Contents) (j : ℕ) → named j ws ≡ false → (after_writes c ws).element j ≡ c.element j
writes_other [] c j n = refl
writes_other (w ∷ ws) c j n =
    let o = or_parts (eqb j w.0) (named j ws) n in
    writes_other ws (write_text_of c w.0 w.1).after j o.1 ∙ (text_framed c w.0 w.1 (own_texted c w.0 w.1)).other j o.0

writes_stay : (ws : List (ℕ × List ℕ)) (c : Contents) → same_on (after_writes c ws).element c.element ws ≡ true → after_writes c ws ≡ c
writes_stay ws c h =
    let l = writes_limits ws c in
    λ i. record { low = l.0 i; high = l.1 i; element = λ j. each j (named j ws) refl i }
  where
    each : (j : ℕ) (v : Bool) → named j ws ≡ v → (after_writes c ws).element j ≡ c.element j
    each j true n = same_named (after_writes c ws).element c.element ws j h n
    each j false n = writes_other ws c j n

left_stays : (q : Content) (c : Contents) → same_on (left_by c q).element c.element (writes_in q) ≡ true → left_by c q ≡ c
left_stays (read_request indices) c h = refl
left_stays (write_request writes) c h = writes_stay writes c h
left_stays discovery_request c h = refl
left_stays (read_answer readouts) c h = refl
left_stays (write_answer codes) c h = refl
left_stays (discovery_answer readouts) c h = refl

-- the writes that a packet asks for
abbrev pub writes_read : Result Message Refusal → List (ℕ × List ℕ)
writes_read (Err reason) = []
writes_read (Ok m) = writes_in m.content

abbrev pub stays : Box → ℕ → List ℕ → Bool
stays b s p = same_on (handled b s p).after.contents.element b.contents.element (writes_read (packet_of p))

handled_stays : (b : Box) (s : ℕ) {r : Result Message Refusal} {x : Handling} → Handled b s r x → same_on x.after.contents.element b.contents.element (writes_read r) ≡ true → x.after.contents ≡ b.contents
handled_stays b s (turns reason) h = refl
handled_stays b s (shows room d) h = refl
handled_stays b s (again room t low n) h = refl
handled_stays b s (carries_out {m = m} room t serves) h = left_stays m.content b.contents h

pub marked : (b : Box) (s : ℕ) (p : List ℕ) → (stays b s p ≡ true) ↔ ((handled b s p).after.contents ≡ b.contents)
marked b s p = (
  handled_stays b s (handled_view b s p),
  λ e. subst (λ (c : Contents). same_on c.element b.contents.element (writes_read (packet_of p)) ≡ true) (sym e) (same_on_self b.contents.element (writes_read (packet_of p))),
)
