-- The accounts of one catalogue: its transactions wait until they are settled, once, and its counts are those of its calls.
use Rattle.std.proofs.Common.{◌≡◌, ℕ, ◌<◌, ◌≤◌, Bool, true, false, ltb, ◌↔◌, List, [], ◌∷◌, length, is_ok, Err, Result, sym, refl, ap, ◌∙◌, subst, arith}
use Rattle.protocol.specs.declared.refusal.Refusal.{Refusal}
use Rattle.protocol.specs.declared.refusal.Refusal.TheVariants.{NoneWaits}
use Rattle.catalogue.specs.declared.timing.Timing.{Timing}
use Rattle.catalogue.specs.Withdrawing.{Withdrawing}
use Rattle.link.specs.Calls.{CatalogueCall, enlist, open_order, poll, withdraw, receive, discover}
use Rattle.link.specs.Transactions.{enlisted, moves, waits, one, WithdrawalsTold}
use Rattle.link.specs.Runs.{Catalogue, catalogue_after}
use Rattle.link.specs.Law.{Accounts}
use Rattle.link.proofs.Views.{Withdraws, withdraws_nobody, withdraws_none, withdraws_done, withdraws_view}
use Rattle.link.proofs.CatalogueSide.{none_waits, waits_for, past_waits, at, as_many, CatalogueOk, CatalogueRun, new_catalogue, books_of}

one_small : (b : Bool) → one b ≤ 1
one_small true = omega arith
one_small false = omega arith

module _ (k : Catalogue) (cs : List CatalogueCall) (b : CatalogueOk k cs) where
  all_there : length (enlisted cs) ≡ length k.station.partners
  all_there = as_many _ _ _ _ _ _ b

  -- one waits
  alone : (i n : ℕ) → waits (moves i cs) ≡ n ∷ [] → waits (moves i cs) ≡ [] → ⊥
  alone i n e z = let y = ap length (sym e ∙ z) in omega arith

  sixteen : (i : ℕ) {x : Withdrawing} → Withdraws k.station i x → (x.answer ≡ Err NoneWaits) ↔ ((i < length (enlisted cs)) × (waits (moves i cs) ≡ []))
  sixteen i (withdraws_nobody l) =
      let z = all_there in
      (λ e. cc, λ h. absurd (omega arith))
  sixteen i (withdraws_none l e) =
      let z = all_there in
      (λ _. (omega arith, none_waits k.slab i (at k.station.partners i) (moves i cs) (b.pairs i) e), λ _. refl)
  sixteen i (withdraws_done w l e) =
      let a = (waits_for k.slab i (at k.station.partners i) (moves i cs) w (b.pairs i) e).alone in
      (λ e. cc, λ h. absurd (alone i w.number a h.1))

  withdrawable : (i : ℕ) {x : Withdrawing} → Withdraws k.station i x → 0 < length (waits (moves i cs)) → is_ok x.answer ≡ true
  withdrawable i (withdraws_nobody l) h =
      let z = ap length (past_waits k.slab k.station.partners i (moves i cs) (b.pairs i) l) in absurd (omega arith)
  withdrawable i (withdraws_none l e) h =
      let z = ap length (none_waits k.slab i (at k.station.partners i) (moves i cs) (b.pairs i) e) in absurd (omega arith)
  withdrawable i (withdraws_done w l e) h = refl

module _ (t : Timing) (slab : List ℕ) where
  told : (cs : List CatalogueCall) → CatalogueRun (new_catalogue t slab) cs → WithdrawalsTold cs
  told [] h = tt
  told (enlist a r ∷ cs) h = told cs h.0
  told (open_order j u o r ∷ cs) h = told cs h.0
  told (poll j u r ∷ cs) h = told cs h.0
  told (withdraw i r ∷ cs) h =
      let k = catalogue_after (new_catalogue t slab) cs in (
        subst (λ (q : Result ℕ Refusal). (q ≡ Err NoneWaits) ↔ ((i < length (enlisted cs)) × (waits (moves i cs) ≡ []))) (sym h.1)
            (sixteen k cs (books_of t slab cs h.0) i (withdraws_view k.station i)),
        told cs h.0,
      )
  told (receive f p r ∷ cs) h = told cs h.0
  told (discover d p ∷ cs) h = told cs h.0

  pub accounts : (cs : List CatalogueCall) → CatalogueRun (new_catalogue t slab) cs → Accounts (catalogue_after (new_catalogue t slab) cs) cs
  accounts cs h =
      let k = catalogue_after (new_catalogue t slab) cs in
      let b = books_of t slab cs h in
      record {
        distinct = b.distinct;
        numbered = λ i n. rw ((b.pairs i).fresh n) (one_small (ltb n (at k.station.partners i).next));
        numbers_rise = λ i. (b.pairs i).rise;
        settled_once = λ i. (b.pairs i).once;
        was_waiting = λ i. (b.pairs i).settles;
        withdrawals = told cs h;
        open_to_withdrawing = λ i. withdrawable k cs b i (withdraws_view k.station i);
        counts = b.counted;
        balance = b.balance;
      }
