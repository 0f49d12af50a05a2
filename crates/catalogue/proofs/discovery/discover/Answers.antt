use Rattle.std.proofs.Common.{◌≡◌, ℕ, Bool, true, false, cond, ltb, List, ◌++◌, length, drop, Ok, Err, Result, ap, ◌∙◌, rules, lit<}
use Rattle.std.proofs.lemmas.Fmt.{decimal_digit}
use Rattle.protocol.specs.declared.refusal.Refusal.{Refusal}
use Rattle.protocol.specs.declared.refusal.Refusal.TheVariants.{ShortMemory}
use Rattle.packet.specs.Messages.{discovery_request}
use Rattle.writer.specs.Bytes.{bytes_of}
use Rattle.writer.specs.Orders.{asked}
use Rattle.writer.specs.Written.{refused, at_start}
use Rattle.slab_rows.specs.Places.{told}
use Rattle.slab_rows.specs.declared.place.Place.TheVariants.{Reply}
use Rattle.catalogue.specs.Receiving.{Discovering, discovery_bytes}
use Rattle.catalogue.proofs.discovery.discover.Goals as goal

-- the packet, written out
same : bytes_of (asked 0 discovery_request) ≡ discovery_bytes
same = simp (decimal_digit 0 (lit< tt), decimal_digit 3 (lit< tt))

-- what the writer leaves is what the call tells
by_test : (b : Bool) (reply row : List ℕ) (n : Result ℕ Refusal) → n ≡ (cond b (refused ShortMemory reply) (at_start (bytes_of (asked 0 discovery_request)) reply)).told
    → row ≡ (cond b (refused ShortMemory reply) (at_start (bytes_of (asked 0 discovery_request)) reply)).row
    → ◌≡◌ {A = Discovering} (record { answer = told Reply n; reply = row })
    (cond b (record { answer = Err ShortMemory; reply = reply }) (record { answer = Ok (Reply (length discovery_bytes)); reply = discovery_bytes ++ drop (length discovery_bytes) reply }))
by_test true reply row n t r = ap (λ x. record { answer = told Reply x; reply = row }) t ∙ ap (λ x. record { answer = Err ShortMemory; reply = x }) r
by_test false reply row n t r =
    ap (λ x. record { answer = told Reply x; reply = row }) (t ∙ ap (λ bs. Ok (length bs)) same) ∙ ap (λ x. record { answer = Ok (Reply (length discovery_bytes)); reply = x }) (r ∙ ap (λ bs. bs ++ drop (length bs) reply) same)

pub returns : goal.returns
returns c =
    let reply = c.args.reply.now in
    let w = c.write_discovery_request in
    let m : c.map.result ≡ told Reply w.result = search rules in
    let e = by_test (ltb (length reply) 512) reply w.new.row w.result w.ensures.told w.ensures.row in
    record { answer = m ∙ ap (λ x. x.answer) e; reply = ap (λ x. x.reply) e }
