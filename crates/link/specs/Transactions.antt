-- What the calls at one catalogue say of its transactions. Lists of calls and of moves have the newest first.
--     enlisted cs     the partners' addresses, in order
--     moves i cs      what befell the transactions with the i-th partner
--     waits ms        the numbers of those that wait, the oldest first
--     tally cs        how many calls of each kind there were
use Rattle.std.specs.Prelude.{◌≡◌, ℕ, zero, suc, ◌+◌, ◌<◌, Bool, false, cond, ◌||◌, ◌↔◌, List, [], ◌∷◌, ◌++◌, length, Ok, Err, ◌==◌, nat_eq}
use Rattle.protocol.specs.declared.refusal.Refusal.TheVariants.{NoneWaits}
use Rattle.packet.specs.Messages.{Message}
use Rattle.slab_rows.specs.Searches.{first_by}
use Rattle.catalogue.specs.declared.told.Counts.{Counts}
use Rattle.catalogue.specs.Stations.{none_counted}
use Rattle.catalogue.specs.Opening.{count_opened}
use Rattle.catalogue.specs.Polling.{count_failed, count_repeated}
use Rattle.catalogue.specs.Receiving.{count_answered}
use Rattle.catalogue.specs.Withdrawing.{count_withdrawn}
use Rattle.link.specs.Calls.{Order, not_opened, opens, not_polled, nothing_due, again, failed, CatalogueCall, enlist, open_order, poll, withdraw, receive, discover, Mem}

-- the addresses enlisted, in order
abbrev pub enlisted : List CatalogueCall → List ℕ
enlisted [] = []
enlisted (enlist a (Err g) ∷ cs) = enlisted cs
enlisted (enlist a (Ok k) ∷ cs) = enlisted cs ++ (a ∷ [])
enlisted (open_order i t o a ∷ cs) = enlisted cs
enlisted (poll i t a ∷ cs) = enlisted cs
enlisted (withdraw i a ∷ cs) = enlisted cs
enlisted (receive f p a ∷ cs) = enlisted cs
enlisted (discover d p ∷ cs) = enlisted cs

-- which of these addresses it is: their number where it is none
abbrev pub place_of : ℕ → List ℕ → ℕ
place_of a addresses = first_by (λ b. nat_eq b a) addresses

-- a transaction was opened, with its number and what it asks; one failed; one was withdrawn; one was answered, so
pub data Move : Type 0 where
  opening : ℕ → Order → Move
  failing : Move
  withdrawing : Move
  answering : Message → Move

-- what befell the transactions with the i-th partner; an answer is for the partner with its sender's address
abbrev pub moves : ℕ → List CatalogueCall → List Move
moves i [] = []
moves i (enlist a r ∷ cs) = moves i cs
moves i (open_order j t o (not_opened g) ∷ cs) = moves i cs
moves i (open_order j t o (opens n p) ∷ cs) = cond (j == i) (opening n o ∷ moves i cs) (moves i cs)
moves i (poll j t (not_polled g) ∷ cs) = moves i cs
moves i (poll j t nothing_due ∷ cs) = moves i cs
moves i (poll j t (again p) ∷ cs) = moves i cs
moves i (poll j t (failed n) ∷ cs) = cond (j == i) (failing ∷ moves i cs) (moves i cs)
moves i (withdraw j (Err g) ∷ cs) = moves i cs
moves i (withdraw j (Ok n) ∷ cs) = cond (j == i) (withdrawing ∷ moves i cs) (moves i cs)
moves i (receive f p (Err g) ∷ cs) = moves i cs
moves i (receive f p (Ok m) ∷ cs) = cond (place_of f (enlisted cs) == i) (answering m ∷ moves i cs) (moves i cs)
moves i (discover d p ∷ cs) = moves i cs

-- all but the first
abbrev pub rest : List ℕ → List ℕ
rest [] = []
rest (n ∷ ns) = ns

-- n is one of these
abbrev pub has : ℕ → List ℕ → Bool
has n [] = false
has n (m ∷ ns) = n == m || has n ns

-- all but the latest n, where the oldest stands first
abbrev pub without : ℕ → List ℕ → List ℕ
without n [] = []
without n (m ∷ ns) = cond (has n ns) (m ∷ without n ns) (cond (n == m) ns (m ∷ ns))

-- the numbers of the transactions that wait, the oldest first: failing and withdrawing settle the oldest, an answer the
-- latest with its number
abbrev pub waits : List Move → List ℕ
waits [] = []
waits (opening n o ∷ ms) = waits ms ++ (n ∷ [])
waits (failing ∷ ms) = rest (waits ms)
waits (withdrawing ∷ ms) = rest (waits ms)
waits (answering m ∷ ms) = without m.number (waits ms)

-- 1 where it is so, else 0
abbrev pub one : Bool → ℕ
one b = cond b 1 0

-- n is the first of these
abbrev pub head_is : ℕ → List ℕ → Bool
head_is n [] = false
head_is n (m ∷ ns) = n == m

-- how often n is among these
abbrev pub times : ℕ → List ℕ → ℕ
times n [] = 0
times n (m ∷ ns) = one (n == m) + times n ns

-- how often a transaction with number n was opened
abbrev pub openings : ℕ → List Move → ℕ
openings n [] = 0
openings n (opening m o ∷ ms) = one (n == m) + openings n ms
openings n (failing ∷ ms) = openings n ms
openings n (withdrawing ∷ ms) = openings n ms
openings n (answering m ∷ ms) = openings n ms

-- how often a transaction with number n was settled
abbrev pub settlings : ℕ → List Move → ℕ
settlings n [] = 0
settlings n (opening m o ∷ ms) = settlings n ms
settlings n (failing ∷ ms) = one (head_is n (waits ms)) + settlings n ms
settlings n (withdrawing ∷ ms) = one (head_is n (waits ms)) + settlings n ms
settlings n (answering m ∷ ms) = one (n == m.number) + settlings n ms

-- each settling settled one that waited
abbrev pub SettlesWaiting : List Move → Type 0
SettlesWaiting [] = Unit {0}
SettlesWaiting (opening n o ∷ ms) = SettlesWaiting ms
SettlesWaiting (failing ∷ ms) = (0 < length (waits ms)) × SettlesWaiting ms
SettlesWaiting (withdrawing ∷ ms) = (0 < length (waits ms)) × SettlesWaiting ms
SettlesWaiting (answering m ∷ ms) = Mem m.number (waits ms) × SettlesWaiting ms

-- each transaction opened so far has a number below n
abbrev pub OpenedBelow : ℕ → List Move → Type 0
OpenedBelow n [] = Unit {0}
OpenedBelow n (opening m o ∷ ms) = (m < n) × OpenedBelow n ms
OpenedBelow n (failing ∷ ms) = OpenedBelow n ms
OpenedBelow n (withdrawing ∷ ms) = OpenedBelow n ms
OpenedBelow n (answering m ∷ ms) = OpenedBelow n ms

-- a later transaction has a higher number
abbrev pub NumbersRise : List Move → Type 0
NumbersRise [] = Unit {0}
NumbersRise (opening m o ∷ ms) = OpenedBelow m ms × NumbersRise ms
NumbersRise (failing ∷ ms) = NumbersRise ms
NumbersRise (withdrawing ∷ ms) = NumbersRise ms
NumbersRise (answering m ∷ ms) = NumbersRise ms

-- each withdrawing got 16 exactly where it named a partner with which none waited
abbrev pub WithdrawalsTold : List CatalogueCall → Type 0
WithdrawalsTold [] = Unit {0}
WithdrawalsTold (enlist a r ∷ cs) = WithdrawalsTold cs
WithdrawalsTold (open_order j t o a ∷ cs) = WithdrawalsTold cs
WithdrawalsTold (poll j t a ∷ cs) = WithdrawalsTold cs
WithdrawalsTold (withdraw i a ∷ cs) = ((a ≡ Err NoneWaits) ↔ ((i < length (enlisted cs)) × (waits (moves i cs) ≡ []))) × WithdrawalsTold cs
WithdrawalsTold (receive f p a ∷ cs) = WithdrawalsTold cs
WithdrawalsTold (discover d p ∷ cs) = WithdrawalsTold cs

-- the counts with one call more
abbrev pub tallied : CatalogueCall → Counts → Counts
tallied (enlist a r) n = n
tallied (open_order j t o (not_opened g)) n = n
tallied (open_order j t o (opens m p)) n = count_opened n
tallied (poll j t (not_polled g)) n = n
tallied (poll j t nothing_due) n = n
tallied (poll j t (again p)) n = count_repeated n
tallied (poll j t (failed m)) n = count_failed n
tallied (withdraw j (Err g)) n = n
tallied (withdraw j (Ok m)) n = count_withdrawn n
tallied (receive f p (Err g)) n = n
tallied (receive f p (Ok m)) n = count_answered n
tallied (discover d p) n = n

-- how many calls of each kind there were
abbrev pub tally : List CatalogueCall → Counts
tally [] = none_counted
tally (c ∷ cs) = tallied c (tally cs)

-- f 0 + .. + f (k - 1)
abbrev pub sum_below : (ℕ → ℕ) → ℕ → ℕ
sum_below f zero = 0
sum_below f (suc k) = f k + sum_below f k

-- how many transactions wait, over all partners
abbrev pub waiting_now : List CatalogueCall → ℕ
waiting_now cs = sum_below (λ i. length (waits (moves i cs))) (length (enlisted cs))
