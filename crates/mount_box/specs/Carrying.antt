-- Carrying out a request: its groups in order, each on the store as the groups before it left it.
--     replied c q     the content of the answer to a read or write request, where the store means c
--     left_by c q     what the store means afterwards
--     who c           the content of the answer to a Discovery request
use Rattle.std.specs.Prelude.{ℕ, cond, List, [], ◌∷◌, map, Some, None, Option, ◌==◌}
use Rattle.protocol.specs.declared.code.Code.{Code}
use Rattle.protocol.specs.declared.code.Code.TheVariants.{Done, NotFound, WrongType, OutsideLimits}
use Rattle.value.specs.Values.{spelled}
use Rattle.packet.specs.Groups.{Readout, found, lacking}
use Rattle.packet.specs.Messages.{Content, read_request, write_request, discovery_request, read_answer, write_answer, discovery_answer}
use Rattle.store.specs.Contents.{Contents, Typed, read_of}
use Rattle.store.specs.Owner.{write_text_of}

-- the answer code with this number
abbrev pub coded : ℕ → Code
coded n = cond (n == 0) Done (cond (n == 1) NotFound (cond (n == 2) WrongType OutsideLimits))

-- a value in its one spelling with its type, or the code that says why there is none
abbrev pub shown_by : Option Typed → ℕ → Readout
shown_by (Some t) code = found t.kind (spelled t.datum)
shown_by None code = lacking (coded code)

-- what an answer tells of the element at an index
abbrev pub shown : Contents → ℕ → Readout
shown c i = shown_by (read_of c i).value (read_of c i).code

-- the codes of writes, each on what the ones before it left
abbrev pub write_codes : Contents → List (ℕ × List ℕ) → List Code
write_codes c [] = []
write_codes c (w ∷ ws) = coded (write_text_of c w.0 w.1).code ∷ write_codes (write_text_of c w.0 w.1).after ws

-- what writes leave
abbrev pub after_writes : Contents → List (ℕ × List ℕ) → Contents
after_writes c [] = c
after_writes c (w ∷ ws) = after_writes (write_text_of c w.0 w.1).after ws

-- the identifier and the security mode, elements 2 and 3
abbrev pub who : Contents → Content
who c = discovery_answer (shown c 2 ∷ shown c 3 ∷ [])

-- the answer to a request; an answer has none, and stands for itself
abbrev pub replied : Contents → Content → Content
replied c (read_request indices) = read_answer (map (shown c) indices)
replied c (write_request writes) = write_answer (write_codes c writes)
replied c discovery_request = who c
replied c (read_answer readouts) = read_answer readouts
replied c (write_answer codes) = write_answer codes
replied c (discovery_answer readouts) = discovery_answer readouts

-- what the store means after a request: only writes change it
abbrev pub left_by : Contents → Content → Contents
left_by c (read_request indices) = c
left_by c (write_request writes) = after_writes c writes
left_by c discovery_request = c
left_by c (read_answer readouts) = c
left_by c (write_answer codes) = c
left_by c (discovery_answer readouts) = c
