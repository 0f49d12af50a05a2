-- The law of the link, over every history that can happen.
use Rattle.std.specs.Prelude.{◌≡◌, ℕ, ◌+◌, ◌<◌, ◌≤◌, true, List, length, is_ok, Some, None, Ok, Option, slice_index, slice_index_or}
use Rattle.value.specs.Values.{Datum, value_read}
use Rattle.packet.specs.Messages.{Message, packet_of}
use Rattle.store.specs.Contents.{Element}
use Rattle.catalogue.specs.Withdrawing.{withdrawing}
use Rattle.link.specs.Calls.{Order, requested, CatalogueCall, receive, Event, at_catalogue, Mem, catalogue_calls, box_calls}
use Rattle.link.specs.Transactions as T
use Rattle.link.specs.Transactions.{enlisted, moves, waits, times, openings, settlings, SettlesWaiting, NumbersRise, WithdrawalsTold, tally, waiting_now}
use Rattle.link.specs.Carryings.{Carrying, carryings, number_in, InOrder, last_write}
use Rattle.link.specs.Runs.{Catalogue, Start, catalogue_now, box_now, Happens}

-- of one catalogue: each transaction waits until it is settled, and none is settled twice
pub record Accounts (k : Catalogue) (cs : List CatalogueCall) : Type 0 where
  -- no address is enlisted twice
  pub distinct : (i j : ℕ) → i < length (enlisted cs) → j < length (enlisted cs) → slice_index (enlisted cs) i ≡ slice_index (enlisted cs) j → i ≡ j
  -- no number is given twice to one partner, and later ones have higher numbers
  pub numbered : (i n : ℕ) → openings n (moves i cs) ≤ 1
  pub numbers_rise : (i : ℕ) → NumbersRise (moves i cs)
  -- each transaction that was opened was settled once, or it waits
  pub settled_once : (i n : ℕ) → openings n (moves i cs) ≡ settlings n (moves i cs) + times n (waits (moves i cs))
  -- each settling settled one that waited
  pub was_waiting : (i : ℕ) → SettlesWaiting (moves i cs)
  -- withdrawing got 16 exactly where none waited and no lower ground held; where one waits now, withdrawing is done
  pub withdrawals : WithdrawalsTold cs
  pub open_to_withdrawing : (i : ℕ) → 0 < length (waits (moves i cs)) → is_ok (withdrawing k.station i).answer ≡ true
  -- each count that is told is the number of past calls of its kind, and they balance
  pub counts : k.station.counts ≡ tally cs
  pub balance : (tally cs).opened ≡ (tally cs).answered + (tally cs).failed + (tally cs).withdrawn + waiting_now cs

-- of a transaction that the catalogue c has with the box f, and that this message settled as answered
pub record Answered (h : List Event) (c f : ℕ) (m : Message) : Type 0 where
  -- the partner that the box is, and the transaction
  pub partner : ℕ
  pub enlists : partner < length (enlisted (catalogue_calls c h))
  pub with_box : slice_index_or (enlisted (catalogue_calls c h)) partner 0 ≡ f
  pub settled : Mem (T.answering m) (moves partner (catalogue_calls c h))
  pub order : Order
  pub opened : Mem (T.opening m.number order) (moves partner (catalogue_calls c h))
  -- the box carried it out, exactly once
  pub carrying : Carrying
  pub carried_out : Mem carrying (carryings c (box_calls f h))
  pub same_number : carrying.number ≡ m.number
  pub same_request : carrying.request ≡ requested order
  pub once : number_in m.number (carryings c (box_calls f h)) ≡ 1
  -- and what is told is the box's reply, group by group
  pub told_as : packet_of carrying.reply ≡ Ok m

-- a carrying out by the box b for the sender s is of a transaction that s opened with b
pub record OpenedBefore (h : List Event) (s b : ℕ) (x : Carrying) : Type 0 where
  pub partner : ℕ
  pub enlists : partner < length (enlisted (catalogue_calls s h))
  pub with_box : slice_index_or (enlisted (catalogue_calls s h)) partner 0 ≡ b
  pub order : Order
  pub opened : Mem (T.opening x.number order) (moves partner (catalogue_calls s h))
  pub same_request : x.request ≡ requested order

-- the element that was first at an index is as it was where nothing was written; else it has the value of the last write
abbrev pub Holds : Option Element → Option Element → Option (List ℕ) → Type 0
Holds was is None = is ≡ was
Holds was is (Some text) = (e : Element) × (d : Datum) × (was ≡ Some e) × (value_read e.kind text ≡ Some d) × (is ≡ Some (record { kind = e.kind; datum = d; fixed = e.fixed }))

pub record Exchange (S : Start) (h : List Event) : Type 0 where
  -- transactions wait until they are settled, once, and the counts are those of the calls
  pub accounts : (c : ℕ) → Accounts (catalogue_now S h c) (catalogue_calls c h)
  -- what was settled as answered was carried out by its box exactly once, and the reply told is the box's
  pub answered : (c f : ℕ) (p : List ℕ) (m : Message) → Mem (at_catalogue c (receive f p (Ok m))) h → Answered h c f m
  -- what is carried out was opened, and never twice
  pub of_opened : (b s : ℕ) (x : Carrying) → Mem x (carryings s (box_calls b h)) → OpenedBefore h s b x
  pub not_twice : (b s n : ℕ) → number_in n (carryings s (box_calls b h)) ≤ 1
  -- none is carried out after a later one between the same two stations
  pub in_order : (b s : ℕ) → InOrder (carryings s (box_calls b h))
  -- each element from 100 up holds the value of its last accepted write; its value at the box's making counts as the first
  pub holds : (b k : ℕ) → 100 ≤ k → Holds ((S.contents b).element k) ((box_now S h b).contents.element k) (last_write k (box_calls b h))

-- every history that can happen keeps the law
abbrev pub TheLaw : Type 0
TheLaw = (S : Start) (h : List Event) → Happens S h → Exchange S h
