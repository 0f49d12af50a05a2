-- What a catalogue may ask is read back as it was asked, and is short; it is a read or write request.
use Rattle.std.proofs.Common.{◌≡◌, ℕ, ◌<◌, ◌≤◌, true, length, Ok}
use Rattle.std.proofs.ByRecursion.{All-map}
use Rattle.field.specs.declared.words.Command.TheVariants.{Discovery}
use Rattle.packet.specs.Messages.{discovery_request, command_of, packet_of}
use Rattle.writer.specs.Bytes.{bytes_of}
use Rattle.writer.specs.Orders.{change_of, asked}
use Rattle.writer.proofs.Allowed.{good_indices, good_changes, good_discovery}
use Rattle.writer.proofs.Goods.{Good, good_back, good_size}
use Rattle.link.specs.Calls.{Order, reads, writes, allowed, requested, Narrow}

module _ (o : Order) (n : ℕ) (a : allowed o ≡ true) (w : Narrow o) (h : n < 65536) where
  pub asked_good : Good (asked n (requested o))
  asked_good = at o a w
    where
      at : (q : Order) → allowed q ≡ true → Narrow q → Good (asked n (requested q))
      at (reads indices) a w = good_indices n indices h w a
      at (writes changes) a w = good_changes n changes h (All-map (λ c. c.0 < 65536) change_of changes w) a

  pub asked_back : packet_of (bytes_of (asked n (requested o))) ≡ Ok (asked n (requested o))
  asked_back = good_back (asked n (requested o)) asked_good

  pub asked_size : length (bytes_of (asked n (requested o))) ≤ 485
  asked_size = good_size (asked n (requested o)) asked_good

pub discovery_back : packet_of (bytes_of (asked 0 discovery_request)) ≡ Ok (asked 0 discovery_request)
discovery_back = good_back (asked 0 discovery_request) good_discovery

pub never_discovery : (o : Order) → command_of (requested o) ≡ Discovery → ⊥
never_discovery (reads indices) e = cc
never_discovery (writes changes) e = cc
