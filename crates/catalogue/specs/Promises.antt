-- What the calls of a catalogue promise: which counts rise, and what stays as it was.
use Rattle.std.specs.Prelude.{◌≡◌, ℕ, ◌+◌, ◌≤◌, List, length, take, drop, Ok, Err, Result, ◌≢◌}
use Rattle.protocol.specs.declared.refusal.Refusal.{Refusal}
use Rattle.packet.specs.Messages.{Content, packet_of}
use Rattle.writer.specs.Orders.{asked}
use Rattle.slab_rows.specs.Places.{part_of}
use Rattle.slab_rows.specs.declared.place.Place.{Place}
use Rattle.slab_rows.specs.declared.place.Place.TheVariants.{Slab, Reply}
use Rattle.catalogue.specs.declared.told.Counts.{Counts}
use Rattle.catalogue.specs.declared.told.Poll.{Poll}
use Rattle.catalogue.specs.declared.told.Poll.TheVariants.{NothingDue, Again, Failed}
use Rattle.catalogue.specs.declared.told.Sent.{Sent}
use Rattle.catalogue.specs.Stations.{Station}
use Rattle.catalogue.specs.Opening.{partner, count_opened}
use Rattle.catalogue.specs.Polling.{count_repeated, count_failed}
use Rattle.catalogue.specs.Receiving.{count_answered}
use Rattle.catalogue.specs.Withdrawing.{count_withdrawn}

-- the counts after an opening: one more was opened where it is accepted
abbrev pub tallied_opening : Counts → Result Sent Refusal → Counts
tallied_opening c (Ok sent) = count_opened c
tallied_opening c (Err reason) = c

-- the counts after polling: one more was sent again, or failed, where it tells that
abbrev pub tallied_polling : Counts → Result Poll Refusal → Counts
tallied_polling c (Ok NothingDue) = c
tallied_polling c (Ok (Again place)) = count_repeated c
tallied_polling c (Ok (Failed number)) = count_failed c
tallied_polling c (Err reason) = c

-- the counts after receiving: one more was answered where the answer is accepted
abbrev pub tallied_receiving : {X : Type 0} → Counts → Result X Refusal → Counts
tallied_receiving c (Ok answer) = count_answered c
tallied_receiving c (Err reason) = c

-- the counts after withdrawing: one more was withdrawn where it is accepted
abbrev pub tallied_withdrawing : Counts → Result ℕ Refusal → Counts
tallied_withdrawing c (Ok number) = count_withdrawn c
tallied_withdrawing c (Err reason) = c

-- there are as many partners as before, and each but the k-th is as it was
abbrev pub Others : ℕ → Station → Station → Type 0
Others k before after = (length after.partners ≡ length before.partners) × ((i : ℕ) → (i ≢ k) → partner after i ≡ partner before i)

-- every byte outside a place in the slab is as it was
abbrev pub Outside : Place → List ℕ → List ℕ → Type 0
Outside (Slab start n) before after = (take start after ≡ take start before) × (drop (start + n) after ≡ drop (start + n) before)
Outside (Reply n) before after = after ≡ before

-- so is every byte outside the packet's place, and all of them where the opening is refused
abbrev pub Elsewhere : Result Sent Refusal → List ℕ → List ℕ → Type 0
Elsewhere (Ok sent) before after = Outside sent.place before after
Elsewhere (Err reason) before after = after ≡ before

-- at the place told lies a packet of at most 485 bytes, which is read back as what was asked
pub record PacketThere (content : Content) (slab : List ℕ) (sent : Sent) (reply : List ℕ) : Type 0 where
  pub bytes : List ℕ
  pub there : part_of sent.place slab reply ≡ Ok bytes
  pub reads : packet_of bytes ≡ Ok (asked sent.number content)
  pub short : length bytes ≤ 485

-- with whichever reply buffer it is handed out
abbrev pub Back : Content → List ℕ → Result Sent Refusal → Type 0
Back content slab (Ok sent) = (reply : List ℕ) → PacketThere content slab sent reply
Back content slab (Err reason) = Unit {0}
