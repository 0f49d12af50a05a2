-- Each element of a box holds the value of its last accepted write, over the box's calls.
--     text_holds    the write of a text keeps it
--     box_holds     and so do all calls at a box
use Rattle.std.proofs.Common.{◌≡◌, ℕ, Bool, true, false, cond, not, ◌&&◌, eqb, List, [], ◌∷◌, Some, None, Ok, Err, Option, Result, sym, refl, ap, ◌∙◌, subst}
use Rattle.std.proofs.lemmas.Bool.{and_right, eqb-true, or_parts}
use Rattle.protocol.specs.Words.{code_number, kind_number}
use Rattle.protocol.specs.declared.code.Code.TheVariants.{Done, NotFound, WrongType, OutsideLimits}
use Rattle.protocol.specs.declared.kind.Kind.{Kind}
use Rattle.protocol.specs.declared.refusal.Refusal.{Refusal}
use Rattle.packet.specs.Messages.{Message, Content, read_request, write_request, discovery_request, read_answer, write_answer, discovery_answer, packet_of}
use Rattle.value.specs.Values.{Datum, value_read}
use Rattle.store.specs.Contents.{Contents, Element, Sound, Writing, barred}
use Rattle.store.specs.Owner.{write_text_of}
use Rattle.store.proofs.Wrote.{same_kind}
use Rattle.store.proofs.Texted.{Texted, turned, taken, owner_texted, own_texted}
use Rattle.mount_box.specs.Carrying.{coded, write_codes, after_writes, replied, left_by}
use Rattle.mount_box.specs.Handling.{Box, handled}
use Rattle.link.specs.Calls.{BoxCall, handle, owner_write}
use Rattle.link.specs.Carryings.{Carrying, transacts, carryings, writes_in, codes_of, last_group, handled_write, last_write}
use Rattle.link.specs.Runs.{box_after, new_box}
use Rattle.link.specs.Law.{Holds}
use Rattle.link.proofs.Handlings.{place}
use Rattle.link.proofs.BoxSide.{Handles, turns, shows, again, carries_out, handling, Keeps, serves_above, repeats_not, repeats_it, BoxRun, new_steady, box_steady, box_keeps}

-- what is held came from the element that was first there, of the same type and mark
from_first : (was is : Option Element) (before : Option (List ℕ)) (e : Element) → Holds was is before → is ≡ Some e → (f : Element) × (was ≡ Some f) × (f.kind ≡ e.kind) × (f.fixed ≡ e.fixed)
from_first was is None e h z = (e, sym h ∙ z, refl, refl)
from_first was is (Some text) e h z =
    let f = h.0 in
    let y : Some (record { kind = f.kind; datum = h.1; fixed = f.fixed }) ≡ Some e = sym h.4 ∙ z in
    let x : ◌≡◌ {A = Element} (record { kind = f.kind; datum = h.1; fixed = f.fixed }) e = cc in
    (f, h.2, ap (λ (q : Element). q.kind) x, ap (λ (q : Element). q.fixed) x)

coded_done : (n : ℕ) → eqb (code_number (coded n)) 0 ≡ eqb n 0
coded_done n = go (eqb n 0) (eqb n 1) (eqb n 2)
  where
    go : (x y z : Bool) → eqb (code_number (cond x Done (cond y NotFound (cond z WrongType OutsideLimits)))) 0 ≡ x
    go true y z = refl
    go false true z = refl
    go false false true = refl
    go false false false = refl

module _ (was : Option Element) (k : ℕ) where
  taken_holds : (c : Contents) (j : ℕ) (text : List ℕ) (before : Option (List ℕ)) (t : Kind) (d : Datum) (e : Element)
      → c.element j ≡ Some e → barred e t ≡ false → value_read t text ≡ Some d → Holds was (c.element k) before
      → (u : Bool) → eqb j k ≡ u → Holds was (cond (eqb j k) (Some (record { kind = t; datum = d; fixed = false })) (c.element k)) (cond (u && true) (Some text) before)
  taken_holds c j text before t d e at free r h true eu =
      let z = eqb-true j k eu in
      let f = from_first was (c.element k) before e h (subst (λ (q : ℕ). c.element q ≡ Some e) z at) in
      let same : f.0.kind ≡ t = f.2 ∙ same_kind e t free in
      let mark : f.0.fixed ≡ false = f.3 ∙ (or_parts e.fixed (not (eqb (kind_number e.kind) (kind_number t))) free).0 in
      rw eu (
        f.0,
        d,
        f.1,
        ap (λ (q : Kind). value_read q text) same ∙ r,
        ap Some (λ i. record { kind = sym same i; datum = d; fixed = sym mark i }),
      )
  taken_holds c j text before t d e at free r h false eu =
      subst (λ (q : Bool). Holds was (cond q (Some (record { kind = t; datum = d; fixed = false })) (c.element k)) before) (sym eu) h

  pub text_holds : (c : Contents) (j : ℕ) (text : List ℕ) (before : Option (List ℕ)) {w : Writing} → Holds was (c.element k) before → Texted c j text w
      → Holds was (w.after.element k) (cond (eqb j k && eqb w.code 0) (Some text) before)
  text_holds c j text before h (turned n e) = rw (and_right (eqb j k) (eqb n 0) e) h
  text_holds c j text before h (taken t d e i at free r) = taken_holds c j text before t d e at free r h (eqb j k) refl

  writes_hold : (ws : List (ℕ × List ℕ)) (c : Contents) (before : Option (List ℕ)) → Holds was (c.element k) before
      → Holds was ((after_writes c ws).element k) (last_group k ws (write_codes c ws) before)
  writes_hold [] c before h = h
  writes_hold (w ∷ ws) c before h =
      let x = write_text_of c w.0 w.1 in
      rw (coded_done x.code) (writes_hold ws x.after (cond (eqb w.0 k && eqb x.code 0) (Some w.1) before) (text_holds c w.0 w.1 before h (own_texted c w.0 w.1)))

  left_holds : (q : Content) (c : Contents) (before : Option (List ℕ)) → Holds was (c.element k) before
      → Holds was ((left_by c q).element k) (last_group k (writes_in q) (codes_of (replied c q)) before)
  left_holds (read_request indices) c before h = h
  left_holds (write_request writes) c before h = writes_hold writes c before h
  left_holds discovery_request c before h = h
  left_holds (read_answer readouts) c before h = h
  left_holds (write_answer codes) c before h = h
  left_holds (discovery_answer readouts) c before h = h

  turned_write : (r : Result Message Refusal) (reason : Refusal) (stays : Bool) (l : List Carrying) (before : Option (List ℕ)) → handled_write k r (Err reason) stays l before ≡ before
  turned_write (Err g) reason stays l before = refl
  turned_write (Ok m) reason stays l before = refl

  -- handling keeps it
  module _ (b : Box) (s : ℕ) (l : List Carrying) (t : Keeps b s l) (before : Option (List ℕ)) (h : Holds was (b.contents.element k) before) where
    handle_holds : {r : Result Message Refusal} {a : Result (List ℕ) Refusal} {b' : Box} → Handles b s r a b' → (stays : Bool) → (b'.contents ≡ b.contents → stays ≡ true)
        → Holds was (b'.contents.element k) (handled_write k r a stays l before)
    handle_holds (turns {r = r} reason) stays st = rw (turned_write r reason stays l before) h
    handle_holds (shows {m = m} d bytes e back) stays st = let z : transacts m.content ≡ false = ap transacts d in rw z h
    handle_holds (again {m = m} z low n) stays st = rw (z, st refl, repeats_it b (place b s) m.number l (t.newest low) n) h
    handle_holds (carries_out {m = m} z serves full bytes e small back) stays st =
        rw (z, repeats_not m.number bytes stays l (serves_above l t serves), back) (left_holds m.content b.contents before h)

pub box_holds : (c : Contents) (slab reply : List ℕ) → Sound c → (cs : List BoxCall) → BoxRun (new_box c slab reply) cs
    → (k : ℕ) → Holds (c.element k) ((box_after (new_box c slab reply) cs).contents.element k) (last_write k cs)
box_holds c slab reply ok [] h k = refl
box_holds c slab reply ok (handle f p a stays ∷ cs) h k =
    let b = new_box c slab reply in
    let x = box_after b cs in
    subst (λ (q : Result (List ℕ) Refusal). Holds (c.element k) ((handled x f p).after.contents.element k) (handled_write k (packet_of p) q stays (carryings f cs) (last_write k cs))) (sym h.1.0)
    (handle_holds (c.element k) k x f (carryings f cs) (box_keeps c slab reply ok cs h.0 f) (last_write k cs) (box_holds c slab reply ok cs h.0 k)
    (handling x (box_steady b (new_steady c slab reply ok) cs) f p) stays h.1.1.1)
box_holds c slab reply ok (owner_write j t text code ∷ cs) h k =
    let x = (box_after (new_box c slab reply) cs).contents in
    rw h.1 (text_holds (c.element k) k x j text (last_write k cs) (box_holds c slab reply ok cs h.0 k) (owner_texted x j t text))
