-- What a sample says, and when it follows from the rules.
use Rattle.std.specs.Prelude.{◌≡◌, ℕ, zero, suc, true, cond, List, [], ◌∷◌, ◌++◌, map, replicate, Some, None, Ok, Err, codes, Option, Result, ◌==◌}
use Rattle.std.specs.Option.{option_map}
use Rattle.protocol.specs.Words.{refusal_number, refusal_field}
use Rattle.protocol.specs.declared.kind.Kind.{Kind}
use Rattle.protocol.specs.declared.kind.Kind.TheVariants.{St}
use Rattle.protocol.specs.declared.refusal.Refusal.{Refusal}
use Rattle.value.specs.Values.{value_read, spelled, words}
use Rattle.packet.specs.Messages.{Message, read_request, packet_of}
use Rattle.store.specs.Contents.{Contents, free}
use Rattle.mount_box.specs.Senders.{blank}
use Rattle.mount_box.specs.Handling.{Box, handled}
use Rattle.catalogue.specs.declared.partner.Waiting.{Waiting}
use Rattle.catalogue.specs.declared.told.Poll.{Poll}
use Rattle.catalogue.specs.declared.told.Poll.TheVariants.{NothingDue, Again, Failed}
use Rattle.catalogue.specs.declared.timing.Timing.{Timing}
use Rattle.catalogue.specs.Stations.{Station, new_station, enlisting}
use Rattle.catalogue.specs.Opening.{partner, opening}
use Rattle.catalogue.specs.Polling.{polling}

-- a packet that reads so; a packet that gets a refusal at a field; a text that is written so as a value of a type, or is none;
-- the times at which an order is sent again and the one at which it is given up; a packet after which the next gets this
-- refusal and the packet itself the kept reply; or two of these
pub data Sample : Type 0 where
  reads : List ℕ → Message → Sample
  gets : List ℕ → ℕ → ℕ → Sample
  written : Kind → List ℕ → List ℕ → Sample
  no_value : Kind → List ℕ → Sample
  sent_at : Timing → List ℕ → ℕ → Sample
  after_it : List ℕ → List ℕ → ℕ → Sample
  both : Sample → Sample → Sample

-- the number and the field of a refusal
abbrev pub told : {A : Type 0} → Result A Refusal → Option (ℕ × Option ℕ)
told (Ok m) = None
told (Err reason) = Some (refusal_number reason, refusal_field reason)

-- what a poll told: nothing due, sent again, given up, or refused
pub data Outcome : Type 0 where
  rests : Outcome
  sends : Outcome
  fails : Outcome
  refuses : Outcome

abbrev pub outcome : Result Poll Refusal → Outcome
outcome (Err reason) = refuses
outcome (Ok NothingDue) = rests
outcome (Ok (Again place)) = sends
outcome (Ok (Failed number)) = fails

-- a catalogue that opened a read of element 100 with its one partner at time 0
abbrev pub opened_at_0 : Timing → Station
opened_at_0 t = (opening (enlisting (new_station t) 9).after (replicate 8192 0) 0 0 true (read_request (100 ∷ []))).after

-- the partner polled at each deadline, at most n times: when, and what was told
abbrev pub polled : ℕ → Station → Option Waiting → List (ℕ × Outcome)
polled zero s w = []
polled (suc n) s None = []
polled (suc n) s (Some w) =
    (w.deadline, outcome (polling s 0 w.deadline).answer)
    ∷ polled n (polling s 0 w.deadline).after (partner (polling s 0 w.deadline).after 0).waiting

-- what a store means that has the St Vega at 100
abbrev pub vega : Contents
vega = record { low = 100; high = 199; element = λ i. cond (i == 100) (Some (free (record { kind = St; datum = words (codes "Vega") }))) None }

-- a box over it that was just created
abbrev pub new_box : Box
new_box = record { records = replicate 16 blank; slab = replicate 8192 0; reply = replicate 512 0; contents = vega }

-- what the sample says holds
abbrev pub Follows : Sample → Type 0
Follows (reads packet m) = packet_of packet ≡ Ok m
Follows (gets packet number field) = told (packet_of packet) ≡ Some (number, Some field)
Follows (written kind text spelling) = option_map spelled (value_read kind text) ≡ Some spelling
Follows (no_value kind text) = value_read kind text ≡ None
Follows (sent_at t times at_last) = polled 25 (opened_at_0 t) (partner (opened_at_0 t) 0).waiting ≡ map (λ at. (at, sends)) times ++ ((at_last, fails) ∷ [])
Follows (after_it first next number) =
    (told (handled (handled new_box 7 first).after 7 next).answer ≡ Some (number, None))
    × (handled (handled new_box 7 first).after 7 first ≡ handled new_box 7 first)
Follows (both x y) = Follows x × Follows y

-- each sample follows
abbrev pub AllFollow : List Sample → Type 0
AllFollow [] = Unit {0}
AllFollow (x ∷ xs) = Follows x × AllFollow xs
