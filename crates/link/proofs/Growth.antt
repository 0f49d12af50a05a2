-- What a history says stays so as the history grows; and the calls at each station of a history that can happen are a run of it.
use Rattle.std.proofs.Common.{◌≡◌, ℕ, ◌<◌, Bool, true, false, cond, eqb, List, [], ◌∷◌, length, get_or, Ok, Err, Result, refl, ◌∙◌, subst, inr, arith}
use Rattle.std.proofs.lemmas.List.{length_push, get_or_append_left}
use Rattle.std.proofs.lemmas.Bool.{eqb-true}
use Rattle.protocol.specs.declared.refusal.Refusal.{Refusal}
use Rattle.packet.specs.Messages.{Message, packet_of}
use Rattle.link.specs.Calls.{not_opened, opens, not_polled, nothing_due, again, failed, CatalogueCall, enlist, open_order, poll, withdraw, receive, discover, BoxCall, handle, owner_write, Event, at_catalogue, at_box, Mem, catalogue_calls, box_calls}
use Rattle.link.specs.Transactions.{enlisted, place_of, Move, opening, failing, withdrawing, answering, moves}
use Rattle.link.specs.Carryings.{Carrying, transacts, repeats, carries, carryings}
use Rattle.link.specs.Runs.{CatalogueAnswers, BoxAnswers, Start, new_box, catalogue_now, box_now, Happens}
use Rattle.link.proofs.Basics.{mem_cond}
use Rattle.link.proofs.CatalogueSide.{CatalogueRun, new_catalogue}
use Rattle.link.proofs.BoxSide.{BoxRun}

-- the i-th partner is enlisted, with this address
abbrev pub PartnerAt : List CatalogueCall → ℕ → ℕ → Type 0
PartnerAt cs i a = (i < length (enlisted cs)) × (get_or (enlisted cs) i 0 ≡ a)

partner_stays : (x : CatalogueCall) (cs : List CatalogueCall) (i a : ℕ) → PartnerAt cs i a → PartnerAt (x ∷ cs) i a
partner_stays (enlist b (Err g)) cs i a h = h
partner_stays (enlist b (Ok n)) cs i a h =
    let l = length_push (enlisted cs) b in
    let z = h.0 in
    (omega arith, get_or_append_left (enlisted cs) (b ∷ []) 0 i z ∙ h.1)
partner_stays (open_order j t o r) cs i a h = h
partner_stays (poll j t r) cs i a h = h
partner_stays (withdraw j r) cs i a h = h
partner_stays (receive f p r) cs i a h = h
partner_stays (discover d p) cs i a h = h

move_stays : (x : CatalogueCall) (cs : List CatalogueCall) (i : ℕ) (m : Move) → Mem m (moves i cs) → Mem m (moves i (x ∷ cs))
move_stays (enlist b r) cs i m h = h
move_stays (open_order j t o (not_opened g)) cs i m h = h
move_stays (open_order j t o (opens n p)) cs i m h = mem_cond m (opening n o) (moves i cs) (eqb j i) h
move_stays (poll j t (not_polled g)) cs i m h = h
move_stays (poll j t nothing_due) cs i m h = h
move_stays (poll j t (again p)) cs i m h = h
move_stays (poll j t (failed n)) cs i m h = mem_cond m failing (moves i cs) (eqb j i) h
move_stays (withdraw j (Err g)) cs i m h = h
move_stays (withdraw j (Ok n)) cs i m h = mem_cond m withdrawing (moves i cs) (eqb j i) h
move_stays (receive f p (Err g)) cs i m h = h
move_stays (receive f p (Ok a)) cs i m h = mem_cond m (answering a) (moves i cs) (eqb (place_of f (enlisted cs)) i) h
move_stays (discover d p) cs i m h = h

carries_more : (r : Result Message Refusal) (a : Result (List ℕ) Refusal) (stays : Bool) (l : List Carrying) (x : Carrying) → Mem x l → Mem x (carries r a stays l)
carries_more (Err g) a stays l x m = m
carries_more (Ok q) (Err g) stays l x m = m
carries_more (Ok q) (Ok reply) stays l x m = go (transacts q.content) (repeats q.number reply stays l)
  where
    go : (v u : Bool) → Mem x (cond v (cond u l (record { number = q.number; request = q.content; reply = reply } ∷ l)) l)
    go true true = m
    go true false = inr m
    go false u = m

carrying_stays : (x : BoxCall) (cs : List BoxCall) (s : ℕ) (y : Carrying) → Mem y (carryings s cs) → Mem y (carryings s (x ∷ cs))
carrying_stays (handle f p a stays) cs s y m = go (eqb f s)
  where
    go : (v : Bool) → Mem y (cond v (carries (packet_of p) a stays (carryings s cs)) (carryings s cs))
    go true = carries_more (packet_of p) a stays (carryings s cs) y m
    go false = m
carrying_stays (owner_write k t text code) cs s y m = m

-- one event more
module _ (h : List Event) where
  pub partner_grows : (e : Event) (s i a : ℕ) → PartnerAt (catalogue_calls s h) i a → PartnerAt (catalogue_calls s (e ∷ h)) i a
  partner_grows (at_box d x) s i a m = m
  partner_grows (at_catalogue d x) s i a m =
      elim (eqb d s) as (λ v. PartnerAt (cond v (x ∷ catalogue_calls s h) (catalogue_calls s h)) i a) [ true ↦ partner_stays x (catalogue_calls s h) i a m | false ↦ m ]

  pub move_grows : (e : Event) (s i : ℕ) (y : Move) → Mem y (moves i (catalogue_calls s h)) → Mem y (moves i (catalogue_calls s (e ∷ h)))
  move_grows (at_box d x) s i y m = m
  move_grows (at_catalogue d x) s i y m =
      elim (eqb d s) as (λ v. Mem y (moves i (cond v (x ∷ catalogue_calls s h) (catalogue_calls s h)))) [ true ↦ move_stays x (catalogue_calls s h) i y m | false ↦ m ]

  pub carrying_grows : (e : Event) (s b : ℕ) (y : Carrying) → Mem y (carryings s (box_calls b h)) → Mem y (carryings s (box_calls b (e ∷ h)))
  carrying_grows (at_catalogue d x) s b y m = m
  carrying_grows (at_box d x) s b y m =
      elim (eqb d b) as (λ v. Mem y (carryings s (cond v (x ∷ box_calls b h) (box_calls b h)))) [ true ↦ carrying_stays x (box_calls b h) s y m | false ↦ m ]

-- each station's own calls were answered as it answers
module _ (S : Start) where
  catalogue_run_more : (h : List Event) (c d : ℕ) (x : CatalogueCall) → CatalogueRun (new_catalogue (S.timing c) (S.catalogue_slab c)) (catalogue_calls c h) → CatalogueAnswers (catalogue_now S h d) x
      → (v : Bool) → eqb d c ≡ v → CatalogueRun (new_catalogue (S.timing c) (S.catalogue_slab c)) (cond v (x ∷ catalogue_calls c h) (catalogue_calls c h))
  catalogue_run_more h c d x r a true e = (r, subst (λ (q : ℕ). CatalogueAnswers (catalogue_now S h q) x) (eqb-true d c e) a)
  catalogue_run_more h c d x r a false e = r

  pub catalogue_run_of : (h : List Event) → Happens S h → (c : ℕ) → CatalogueRun (new_catalogue (S.timing c) (S.catalogue_slab c)) (catalogue_calls c h)
  catalogue_run_of [] hp c = tt
  catalogue_run_of (at_catalogue d x ∷ h) hp c = catalogue_run_more h c d x (catalogue_run_of h hp.0 c) hp.1 (eqb d c) refl
  catalogue_run_of (at_box d x ∷ h) hp c = catalogue_run_of h hp.0 c

  box_run_more : (h : List Event) (b d : ℕ) (x : BoxCall) → BoxRun (new_box (S.contents b) (S.box_slab b) (S.box_reply b)) (box_calls b h) → BoxAnswers (box_now S h d) x
      → (v : Bool) → eqb d b ≡ v → BoxRun (new_box (S.contents b) (S.box_slab b) (S.box_reply b)) (cond v (x ∷ box_calls b h) (box_calls b h))
  box_run_more h b d x r a true e = (r, subst (λ (q : ℕ). BoxAnswers (box_now S h q) x) (eqb-true d b e) a)
  box_run_more h b d x r a false e = r

  pub box_run_of : (h : List Event) → Happens S h → (b : ℕ) → BoxRun (new_box (S.contents b) (S.box_slab b) (S.box_reply b)) (box_calls b h)
  box_run_of [] hp b = tt
  box_run_of (at_box d x ∷ h) hp b = box_run_more h b d x (box_run_of h hp.0 b) hp.1 (eqb d b) refl
  box_run_of (at_catalogue d x ∷ h) hp b = box_run_of h hp.0 b

  pub older : (e : Event) (h : List Event) → Happens S (e ∷ h) → Happens S h
  older (at_catalogue c x) h hp = hp.0
  older (at_box c x) h hp = hp.0
