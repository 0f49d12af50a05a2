-- A night that can happen and has in it what the law speaks of: one catalogue, at address 0, and one box, at address 1. It is told
-- in stages, each behind the one before it; the newest event stands first.
--     night        all its events
--     Witnessed    it can happen, and what comes of it
use Rattle.std.specs.Prelude.{◌≡◌, ℕ, ◌≤◌, true, false, cond, List, [], ◌∷◌, ◌++◌, map, length, take, replicate, pos, Some, None, Ok, Err, codes, Option, ◌==◌, refl}
use Rattle.std.proofs.Common.{lit≤}
use Rattle.std.proofs.Math.Utf8.{encode}
use Rattle.std.specs.Str.{chars}
use Rattle.protocol.specs.Texts.{textual}
use Rattle.protocol.specs.declared.code.Code.TheVariants.{Done}
use Rattle.protocol.specs.declared.kind.Kind.TheVariants.{In, St}
use Rattle.protocol.specs.declared.refusal.Refusal.TheVariants.{OldNumber, NoMatch, NoneWaits}
use Rattle.protocol.specs.declared.text.Text.{Text}
use Rattle.value.specs.Values.{whole, words}
use Rattle.packet.specs.Messages.{Message, write_answer}
use Rattle.writer.specs.Orders.{asked}
use Rattle.store.specs.Contents.{Contents, Element, Sound, free}
use Rattle.link.specs.Calls.{Order, reads, writes, opens, again, failed, enlist, open_order, poll, withdraw, receive, handle, owner_write, Event, at_catalogue, at_box, catalogue_calls, box_calls}
use Rattle.link.specs.Transactions.{opening, failing, withdrawing, answering, moves, waits, tally}
use Rattle.link.specs.Carryings.{Carrying, carryings, last_write}
use Rattle.link.specs.Runs.{Start, box_now, Happens}

-- a text, in forty bytes
abbrev pub padded : List ℕ → List ℕ
padded bs = take 40 (bs ++ replicate 40 0)

abbrev pub text : (bs : List ℕ) → length bs ≤ 40 → textual (take (length bs) (padded bs)) ≡ true → Text
text bs short plain = record { bytes = padded bs; len = length bs; short = short; plain = plain }

-- the mount is to point at a star: its name goes to element 100, its right ascension to 101 and its declination to 102
abbrev pub aim : Text → Text → Text → Order
aim name ascension declination =
    writes (record { index = 100; text = Some name } ∷ record { index = 101; text = Some ascension } ∷ record { index = 102; text = Some declination } ∷ [])

-- at Vega, at Albireo, at Polaris
abbrev pub vega : Order
unfolding chars encode
vega = aim (text (codes "Vega") (lit≤ tt) refl) (text (codes "1005245045") (lit≤ tt) refl) (text (codes "139621280") (lit≤ tt) refl)

abbrev pub albireo : Order
unfolding chars encode
albireo = aim (text (codes "Albireo") (lit≤ tt) refl) (text (codes "1053649208") (lit≤ tt) refl) (text (codes "100654848") (lit≤ tt) refl)

abbrev pub polaris : Order
unfolding chars encode
polaris = aim (text (codes "Polaris") (lit≤ tt) refl) (text (codes "136636418") (lit≤ tt) refl) (text (codes "321350792") (lit≤ tt) refl)

-- what a store means that points there
abbrev pub angle : ℕ → Option Element
angle z = Some (free (record { kind = In; datum = whole (pos z) }))

abbrev pub pointed : List ℕ → ℕ → ℕ → Contents
pointed name ascension declination = record {
  low = 100;
  high = 102;
  element = λ i.
      cond (i == 100) (Some (free (record { kind = St; datum = words name })))
      (cond (i == 101) (angle ascension)
      (cond (i == 102) (angle declination) None));
}

-- what the box's store means at first: it points at Mizar
abbrev pub first_contents : Contents
first_contents = pointed (codes "Mizar") 723533107 197731267

-- the stations, just created: a packet is sent again up to twice, after one second and after two more
abbrev pub start : Sound first_contents → Start
start sound = record {
  timing = λ _. record { first = 1000; longest = 60000; repeats = 2 };
  catalogue_slab = λ _. replicate 8192 0;
  contents = λ _. first_contents;
  box_slab = λ _. replicate 8192 0;
  box_reply = λ _. replicate 512 0;
  sound = λ _. sound;
}

-- the packets of three writes and of a read
abbrev pub packet_0 : List ℕ
packet_0 = codes "{1.1:R:0:2:100:Vega:101:1005245045:102:139621280}"

abbrev pub packet_1 : List ℕ
packet_1 = codes "{1.1:R:1:2:100:Albireo:101:1053649208:102:100654848}"

abbrev pub packet_2 : List ℕ
packet_2 = codes "{1.1:R:2:2:100:Polaris:101:136636418:102:321350792}"

abbrev pub packet_3 : List ℕ
packet_3 = codes "{1.1:R:3:1:100:101:102}"

-- the replies to all but the second: three codes 0, the same, and what is read
abbrev pub reply_0 : List ℕ
reply_0 = codes "{1.1:A:0:2:0:0:0}"

abbrev pub reply_2 : List ℕ
reply_2 = codes "{1.1:A:2:2:0:0:0}"

abbrev pub reply_3 : List ℕ
reply_3 = codes "{1.1:A:3:1:0:St:Polaris:0:In:136636418:0:In:321350792}"

-- the answer that tells that all three writes were accepted
abbrev pub accepted : ℕ → Message
accepted n = asked n (write_answer (Done ∷ Done ∷ Done ∷ []))

-- a read of where the mount points
abbrev pub reading : Order
reading = reads (100 ∷ 101 ∷ 102 ∷ [])

-- Vega is opened, and sent again since no answer came; the box carries it out
abbrev pub carried_out : List Event
carried_out =
    at_box 1 (handle 0 packet_0 (Ok reply_0) false)
    ∷ at_catalogue 0 (poll 0 1000 (again packet_0))
    ∷ at_catalogue 0 (open_order 0 0 vega (opens 0 packet_0))
    ∷ at_catalogue 0 (enlist 1 (Ok 0))
    ∷ []

-- the packet arrives once more, and gets the kept reply
abbrev pub repeated : List Event
repeated = at_box 1 (handle 0 packet_0 (Ok reply_0) true) ∷ carried_out

-- the reply arrives, and once more
abbrev pub answered : List Event
answered =
    at_catalogue 0 (receive 1 reply_0 (Err NoMatch))
    ∷ at_catalogue 0 (receive 1 reply_0 (Ok (accepted 0)))
    ∷ repeated

-- Albireo gets no answer, since its packet is held back, and is given up
abbrev pub given_up : List Event
given_up =
    at_catalogue 0 (poll 0 9000 (failed 1))
    ∷ at_catalogue 0 (poll 0 5000 (again packet_1))
    ∷ at_catalogue 0 (poll 0 3000 (again packet_1))
    ∷ at_catalogue 0 (open_order 0 2000 albireo (opens 1 packet_1))
    ∷ answered

-- Polaris is carried out and answered
abbrev pub answered_later : List Event
answered_later =
    at_catalogue 0 (receive 1 reply_2 (Ok (accepted 2)))
    ∷ at_box 1 (handle 0 packet_2 (Ok reply_2) false)
    ∷ at_catalogue 0 (open_order 0 10000 polaris (opens 2 packet_2))
    ∷ given_up

-- the packet of Albireo, held back until now, arrives and is turned down
abbrev pub overtaken : List Event
overtaken = at_box 1 (handle 0 packet_1 (Err OldNumber) true) ∷ answered_later

-- a read is withdrawn, and then none waits; the box carries it out all the same, and the reply is turned down
abbrev pub withdrawn : List Event
withdrawn =
    at_catalogue 0 (receive 1 reply_3 (Err NoMatch))
    ∷ at_box 1 (handle 0 packet_3 (Ok reply_3) true)
    ∷ at_catalogue 0 (withdraw 0 (Err NoneWaits))
    ∷ at_catalogue 0 (withdraw 0 (Ok 3))
    ∷ at_catalogue 0 (open_order 0 11000 reading (opens 3 packet_3))
    ∷ overtaken

-- the box's owner sets the declination
abbrev pub night : List Event
night = at_box 1 (owner_write 102 In (codes "321350800") 0) ∷ withdrawn

-- the numbers that the box carried out, the newest first
abbrev pub numbers : List Event → List ℕ
numbers h = map (λ (x : Carrying). x.number) (carryings 0 (box_calls 1 h))

-- the night can happen, and this comes of it
pub record Witnessed : Type 0 where
  pub sound : Sound first_contents
  pub happens : Happens (start sound) night
  -- two transactions were answered, one failed, one was withdrawn, and none waits
  pub settled : moves 0 (catalogue_calls 0 night) ≡
      withdrawing ∷ opening 3 reading
      ∷ answering (accepted 2) ∷ opening 2 polaris
      ∷ failing ∷ opening 1 albireo
      ∷ answering (accepted 0) ∷ opening 0 vega ∷ []
  pub none_waits : waits (moves 0 (catalogue_calls 0 night)) ≡ []
  pub counted : tally (catalogue_calls 0 night) ≡ record { opened = 4; answered = 2; failed = 1; withdrawn = 1; repeated = 3 }
  -- the first was sent again once, and the one that failed twice
  pub sent_again : ((tally (catalogue_calls 0 answered)).repeated ≡ 1) × ((tally (catalogue_calls 0 given_up)).repeated ≡ 3)
  -- a packet that arrives twice is carried out once, and the second time changes nothing at the box
  pub carried_once : (numbers carried_out ≡ 0 ∷ []) × (numbers repeated ≡ 0 ∷ [])
  pub repeat_changes_nothing : box_now (start sound) repeated 1 ≡ box_now (start sound) carried_out 1
  -- the one that was overtaken is never carried out: it is refused by 11, which changes nothing at the box
  pub overtaken_never : (numbers answered_later ≡ 2 ∷ 0 ∷ []) × (numbers night ≡ 3 ∷ 2 ∷ 0 ∷ [])
  pub refusal_changes_nothing : box_now (start sound) overtaken 1 ≡ box_now (start sound) answered_later 1
  -- so the mount points where the later write says, name and angles alike
  pub last_name : last_write 100 (box_calls 1 night) ≡ Some (codes "Polaris")
  pub points_there : (box_now (start sound) overtaken 1).contents ≡ pointed (codes "Polaris") 136636418 321350792
  -- and what the owner wrote stands
  pub owner_wrote : (last_write 102 (box_calls 1 night) ≡ Some (codes "321350800")) × ((box_now (start sound) night 1).contents.element 102 ≡ angle 321350800)
