-- The law of the link.
use Rattle.std.proofs.Common.{◌≡◌, ℕ, ◌+◌, ◌<◌, ◌≤◌, Bool, true, false, eqb, List, [], ◌∷◌, sym, refl, ap, subst, inl, inr, arith}
use Rattle.std.proofs.lemmas.Bool.{eqb-true, eq-eqb, ne_eqb}
use Rattle.link.specs.Calls.{Event, Mem, catalogue_calls, box_calls}
use Rattle.link.specs.Transactions.{one}
use Rattle.link.specs.Carryings.{Carrying, carryings, number_in, Below, InOrder}
use Rattle.link.specs.Runs.{Start, Happens}
use Rattle.link.specs.Law.{Exchange, TheLaw}
use Rattle.link.proofs.AccountsSide.{accounts}
use Rattle.link.proofs.BoxSide.{box_keeps}
use Rattle.link.proofs.StoreSide.{box_holds}
use Rattle.link.proofs.Growth.{catalogue_run_of, box_run_of}
use Rattle.link.proofs.Network.{all_kinds, found_all}

below_mem : (l : List Carrying) (n : ℕ) (x : Carrying) → Below n l → Mem x l → x.number < n
below_mem [] n x b m = absurd m
below_mem (y ∷ l) n x b (inl z) = let w : y.number ≡ x.number = ap (λ (q : Carrying). q.number) z in omega arith
below_mem (y ∷ l) n x b (inr m) = below_mem l n x b.1 m

none_below : (l : List Carrying) (n : ℕ) → Below n l → number_in n l ≡ 0
none_below [] n b = refl
none_below (y ∷ l) n b = let i = none_below l n b.1 in let z = b.0 in rw (ne_eqb n y.number (λ w. omega arith)) (omega arith)

-- in order, so only once
only_once : (l : List Carrying) (x : Carrying) → InOrder l → Mem x l → number_in x.number l ≡ 1
only_once [] x o m = absurd m
only_once (y ∷ l) x o (inl z) =
    let w : x.number ≡ y.number = ap (λ (q : Carrying). q.number) (sym z) in
    let i : number_in x.number l ≡ 0 = none_below l x.number (subst (λ (q : ℕ). Below q l) (sym w) o.0) in
    rw (eq-eqb x.number y.number w) (omega arith)
only_once (y ∷ l) x o (inr m) =
    let b = below_mem l y.number x o.0 m in
    let i = only_once l x o.1 m in
    rw (ne_eqb x.number y.number (λ w. omega arith)) (omega arith)

at_most_once : (l : List Carrying) (n : ℕ) → InOrder l → number_in n l ≤ 1
at_most_once [] n o = omega arith
at_most_once (y ∷ l) n o = go (at_most_once l n o.1) (eqb n y.number) refl
  where
    go : number_in n l ≤ 1 → (v : Bool) → eqb n y.number ≡ v → one v + number_in n l ≤ 1
    go ih true e = let z = none_below l n (subst (λ (q : ℕ). Below q l) (sym (eqb-true n y.number e)) o.0) in omega arith
    go ih false e = omega arith

module _ (S : Start) (h : List Event) (hp : Happens S h) where
  ordered : (b s : ℕ) → InOrder (carryings s (box_calls b h))
  ordered b s = (box_keeps (S.contents b) (S.box_slab b) (S.box_reply b) (S.sound b) (box_calls b h) (box_run_of S h hp b) s).order

  exchange : Exchange S h
  exchange = record {
    accounts = λ c. accounts (S.timing c) (S.catalogue_slab c) (catalogue_calls c h) (catalogue_run_of S h hp c);
    answered = λ c f p m i.
        let x = found_all S h hp c f p m i in
        record {
          partner = x.partner;
          enlists = x.with_box.0;
          with_box = x.with_box.1;
          settled = x.settled;
          order = x.order;
          opened = x.opened;
          carrying = x.carrying;
          carried_out = x.carried_out;
          same_number = x.same_number;
          same_request = x.same_request;
          once = subst (λ (q : ℕ). number_in q (carryings c (box_calls f h)) ≡ 1) x.same_number (only_once (carryings c (box_calls f h)) x.carrying (ordered f c) x.carried_out);
          told_as = x.told_as;
        };
    of_opened = λ b s x m.
        let a = ((all_kinds S h hp).1 b s x m).asked_for in
        record { partner = a.partner; enlists = a.with_box.0; with_box = a.with_box.1; order = a.order; opened = a.opened; same_request = a.same_request };
    not_twice = λ b s n. at_most_once (carryings s (box_calls b h)) n (ordered b s);
    in_order = ordered;
    holds = λ b k big. box_holds (S.contents b) (S.box_slab b) (S.box_reply b) (S.sound b) (box_calls b h) (box_run_of S h hp b) k;
  }

pub the_law : TheLaw
the_law S h hp = exchange S h hp
