-- What the calls at one box say of what it carried out, and of what was written. The newest stands first.
--     carryings s cs    what the box carried out for the sender s
--     last_write k cs   the text of the last accepted write to element k
use Rattle.std.specs.Prelude.{ℕ, ◌+◌, ◌<◌, Bool, true, false, cond, ◌&&◌, List, [], ◌∷◌, Some, None, Ok, Err, Option, Result, ◌==◌}
use Rattle.std.specs.Str.{bytes_eq}
use Rattle.protocol.specs.Words.{code_number}
use Rattle.protocol.specs.declared.code.Code.{Code}
use Rattle.protocol.specs.declared.refusal.Refusal.{Refusal}
use Rattle.packet.specs.Messages.{Message, Content, read_request, write_request, discovery_request, read_answer, write_answer, discovery_answer, packet_of}
use Rattle.link.specs.Calls.{BoxCall, handle, owner_write}
use Rattle.link.specs.Transactions.{one}

-- a request that was carried out, and the reply to it
pub record Carrying : Type 0 where
  pub number : ℕ
  pub request : Content
  pub reply : List ℕ

-- a read or write request
abbrev pub transacts : Content → Bool
transacts (read_request indices) = true
transacts (write_request writes) = true
transacts discovery_request = false
transacts (read_answer readouts) = false
transacts (write_answer codes) = false
transacts (discovery_answer readouts) = false

-- a reply is a repeat if the last carrying out had the same number and reply and the store's contents stayed
abbrev pub repeats : ℕ → List ℕ → Bool → List Carrying → Bool
repeats n reply stays [] = false
repeats n reply stays (x ∷ xs) = stays && (n == x.number && bytes_eq reply x.reply)

-- the carryings out with one handled packet more: a reply to a read or write request that is no repeat is one
abbrev pub carries : Result Message Refusal → Result (List ℕ) Refusal → Bool → List Carrying → List Carrying
carries (Err g) answer stays xs = xs
carries (Ok m) (Err g) stays xs = xs
carries (Ok m) (Ok reply) stays xs =
    cond (transacts m.content)
    (cond (repeats m.number reply stays xs) xs (record { number = m.number; request = m.content; reply = reply } ∷ xs))
    xs

-- what the box carried out for that sender
abbrev pub carryings : ℕ → List BoxCall → List Carrying
carryings s [] = []
carryings s (handle f p a stays ∷ cs) = cond (f == s) (carries (packet_of p) a stays (carryings s cs)) (carryings s cs)
carryings s (owner_write k t text code ∷ cs) = carryings s cs

-- how often number n was carried out
abbrev pub number_in : ℕ → List Carrying → ℕ
number_in n [] = 0
number_in n (x ∷ xs) = one (n == x.number) + number_in n xs

-- each number is below n
abbrev pub Below : ℕ → List Carrying → Type 0
Below n [] = Unit {0}
Below n (x ∷ xs) = (x.number < n) × Below n xs

-- each was carried out after all with lower numbers, and before all with higher ones
abbrev pub InOrder : List Carrying → Type 0
InOrder [] = Unit {0}
InOrder (x ∷ xs) = Below x.number xs × InOrder xs

-- the writes that a request asks for
abbrev pub writes_in : Content → List (ℕ × List ℕ)
writes_in (read_request indices) = []
writes_in (write_request writes) = writes
writes_in discovery_request = []
writes_in (read_answer readouts) = []
writes_in (write_answer codes) = []
writes_in (discovery_answer readouts) = []

-- the codes that an answer tells of writes
abbrev pub codes_of : Content → List Code
codes_of (read_request indices) = []
codes_of (write_request writes) = []
codes_of discovery_request = []
codes_of (read_answer readouts) = []
codes_of (write_answer codes) = codes
codes_of (discovery_answer readouts) = []

abbrev pub codes_in : Result Message Refusal → List Code
codes_in (Err g) = []
codes_in (Ok m) = codes_of m.content

-- the text of the last of these groups that was written to element k with code 0; the text before where there is none
abbrev pub last_group : ℕ → List (ℕ × List ℕ) → List Code → Option (List ℕ) → Option (List ℕ)
last_group k [] cs before = before
last_group k (w ∷ ws) [] before = before
last_group k (w ∷ ws) (c ∷ cs) before = last_group k ws cs (cond (w.0 == k && code_number c == 0) (Some w.1) before)

-- with one handled packet more: a write is accepted if a group of a request that is carried out got code 0
abbrev pub handled_write : ℕ → Result Message Refusal → Result (List ℕ) Refusal → Bool → List Carrying → Option (List ℕ) → Option (List ℕ)
handled_write k (Err g) answer stays xs before = before
handled_write k (Ok m) (Err g) stays xs before = before
handled_write k (Ok m) (Ok reply) stays xs before =
    cond (transacts m.content)
    (cond (repeats m.number reply stays xs) before (last_group k (writes_in m.content) (codes_in (packet_of reply)) before))
    before

-- the text of the last accepted write to element k; the owner's write is accepted with code 0 too
abbrev pub last_write : ℕ → List BoxCall → Option (List ℕ)
last_write k [] = None
last_write k (handle f p a stays ∷ cs) = handled_write k (packet_of p) a stays (carryings f cs) (last_write k cs)
last_write k (owner_write j t text code ∷ cs) = cond (j == k && code == 0) (Some text) (last_write k cs)
