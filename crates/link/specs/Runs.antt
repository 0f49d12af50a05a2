-- Histories that can happen: stations that were just created answer each call as their definitions say, and each packet that
-- arrives was sent to that station by the sender that it bears. Packets may be lost, delayed, repeated and overtaken.
use Rattle.std.specs.Prelude.{◌≡◌, ℕ, ◌<◌, Bool, true, ◌↔◌, List, [], ◌∷◌, length, replicate, Ok, slice_index}
use Rattle.packet.specs.Messages.{discovery_request}
use Rattle.writer.specs.Bytes.{bytes_of}
use Rattle.writer.specs.Orders.{asked}
use Rattle.store.specs.Contents.{Contents, Sound}
use Rattle.store.specs.Owner.{owner_write_of}
use Rattle.mount_box.specs.Senders.{blank}
use Rattle.mount_box.specs.Handling.{Box, handled}
use Rattle.catalogue.specs.declared.timing.Timing.{Timing}
use Rattle.catalogue.specs.Stations.{Station, new_station, enlisting}
use Rattle.catalogue.specs.Opening.{opening}
use Rattle.catalogue.specs.Polling.{polling}
use Rattle.catalogue.specs.Receiving.{receiving}
use Rattle.catalogue.specs.Withdrawing.{withdrawing}
use Rattle.link.specs.Calls.{Order, allowed, requested, Narrow, opens, again, CatalogueCall, enlist, open_order, poll, withdraw, receive, discover, BoxCall, handle, owner_write, Event, at_catalogue, at_box, catalogue_calls, box_calls, opened_with, polled_with, replied_with}
use Rattle.link.specs.Transactions.{enlisted}

-- a catalogue with its slab
pub record Catalogue : Type 0 where
  pub station : Station
  pub slab : List ℕ

-- the catalogue after a call
abbrev pub catalogue_next : Catalogue → CatalogueCall → Catalogue
catalogue_next k (enlist a r) = record { station = (enlisting k.station a).after; slab = k.slab }
catalogue_next k (open_order i t o r) = record { station = (opening k.station k.slab i t (allowed o) (requested o)).after; slab = (opening k.station k.slab i t (allowed o) (requested o)).slab }
catalogue_next k (poll i t r) = record { station = (polling k.station i t).after; slab = k.slab }
catalogue_next k (withdraw i r) = record { station = (withdrawing k.station i).after; slab = k.slab }
catalogue_next k (receive f p r) = record { station = (receiving k.station f p).after; slab = k.slab }
catalogue_next k (discover d p) = k

-- the call was answered as the catalogue answers
abbrev pub CatalogueAnswers : Catalogue → CatalogueCall → Type 0
CatalogueAnswers k (enlist a r) = r ≡ (enlisting k.station a).answer
CatalogueAnswers k (open_order i t o r) = Narrow o × (r ≡ opened_with (opening k.station k.slab i t (allowed o) (requested o)).answer (opening k.station k.slab i t (allowed o) (requested o)).slab)
CatalogueAnswers k (poll i t r) = r ≡ polled_with (polling k.station i t).answer k.slab
CatalogueAnswers k (withdraw i r) = r ≡ (withdrawing k.station i).answer
CatalogueAnswers k (receive f p r) = r ≡ (receiving k.station f p).answer
CatalogueAnswers k (discover d p) = p ≡ bytes_of (asked 0 discovery_request)

-- the box after a call
abbrev pub box_next : Box → BoxCall → Box
box_next b (handle f p r stays) = (handled b f p).after
box_next b (owner_write k t text code) = record { records = b.records; slab = b.slab; reply = b.reply; contents = (owner_write_of b.contents k t text).after }

-- the call was answered as the box answers; the mark says whether the contents stayed
abbrev pub BoxAnswers : Box → BoxCall → Type 0
BoxAnswers b (handle f p r stays) =
    (r ≡ replied_with (handled b f p).answer (handled b f p).after.slab (handled b f p).after.reply)
    × ((stays ≡ true) ↔ ((handled b f p).after.contents ≡ b.contents))
BoxAnswers b (owner_write k t text code) = code ≡ (owner_write_of b.contents k t text).code

abbrev pub catalogue_after : Catalogue → List CatalogueCall → Catalogue
catalogue_after k [] = k
catalogue_after k (x ∷ xs) = catalogue_next (catalogue_after k xs) x

abbrev pub box_after : Box → List BoxCall → Box
box_after b [] = b
box_after b (x ∷ xs) = box_next (box_after b xs) x

-- a packet that a station gave, from whom and to whom: by an opening or a poll to the partner, by handling to the request's
-- sender, by the making of a Discovery request to anyone
pub data Sent : List Event → ℕ → ℕ → List ℕ → Type 0 where
  earlier : {h : List Event} {e : Event} {f to : ℕ} {q : List ℕ} → Sent h f to q → Sent (e ∷ h) f to q
  by_opening : {h : List Event} {f i t n : ℕ} {o : Order} {q : List ℕ}
      → i < length (enlisted (catalogue_calls f h)) → Sent (at_catalogue f (open_order i t o (opens n q)) ∷ h) f (slice_index (enlisted (catalogue_calls f h)) i) q
  by_polling : {h : List Event} {f i t : ℕ} {q : List ℕ}
      → i < length (enlisted (catalogue_calls f h)) → Sent (at_catalogue f (poll i t (again q)) ∷ h) f (slice_index (enlisted (catalogue_calls f h)) i) q
  by_handling : {h : List Event} {f to : ℕ} {p q : List ℕ} {stays : Bool} → Sent (at_box f (handle to p (Ok q) stays) ∷ h) f to q
  by_discovery : {h : List Event} {f to : ℕ} {q : List ℕ} → Sent (at_catalogue f (discover to q) ∷ h) f to q

-- what arrives was sent to that station by the sender that it bears
abbrev pub CatalogueArrives : List Event → ℕ → CatalogueCall → Type 0
CatalogueArrives h c (enlist a r) = Unit {0}
CatalogueArrives h c (open_order i t o r) = Unit {0}
CatalogueArrives h c (poll i t r) = Unit {0}
CatalogueArrives h c (withdraw i r) = Unit {0}
CatalogueArrives h c (receive f p r) = Sent h f c p
CatalogueArrives h c (discover d p) = Unit {0}

abbrev pub BoxArrives : List Event → ℕ → BoxCall → Type 0
BoxArrives h b (handle f p r stays) = Sent h f b p
BoxArrives h b (owner_write k t text code) = Unit {0}

-- the stations, just created: at each address there may be a catalogue, with its timing, and a box, with what its store means
pub record Start : Type 0 where
  pub timing : ℕ → Timing
  pub catalogue_slab : ℕ → List ℕ
  pub contents : ℕ → Contents
  pub box_slab : ℕ → List ℕ
  pub box_reply : ℕ → List ℕ
  pub sound : (b : ℕ) → Sound (contents b)

-- a box that was just created
abbrev pub new_box : Contents → List ℕ → List ℕ → Box
new_box c slab reply = record { records = replicate 16 blank; slab = slab; reply = reply; contents = c }

module _ (S : Start) where
  -- what the catalogue at an address holds after a history
  abbrev pub catalogue_now : List Event → ℕ → Catalogue
  catalogue_now h c = catalogue_after (record { station = new_station (S.timing c); slab = S.catalogue_slab c }) (catalogue_calls c h)

  -- what the box at an address holds after a history
  abbrev pub box_now : List Event → ℕ → Box
  box_now h b = box_after (new_box (S.contents b) (S.box_slab b) (S.box_reply b)) (box_calls b h)

  -- the history can happen
  abbrev pub Happens : List Event → Type 0
  Happens [] = Unit {0}
  Happens (at_catalogue c x ∷ h) = Happens h × CatalogueAnswers (catalogue_now h c) x × CatalogueArrives h c x
  Happens (at_box b x ∷ h) = Happens h × BoxAnswers (box_now h b) x × BoxArrives h b x
