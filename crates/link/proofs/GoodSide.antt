-- The contents of a box stay sound over every call.
--     writes_sound, left_sound   a request that is carried out leaves sound contents
--     box_sound                  and so do all calls at a box
use Rattle.std.proofs.Common.{ℕ, List, [], ◌∷◌, Result}
use Rattle.protocol.specs.declared.refusal.Refusal.{Refusal}
use Rattle.packet.specs.Messages.{Message, Content, read_request, write_request, discovery_request, read_answer, write_answer, discovery_answer}
use Rattle.store.specs.Contents.{Contents, Sound}
use Rattle.store.specs.Owner.{owner_write_of, write_text_of}
use Rattle.store.proofs.Texted.{own_texted, owner_texted, texted_sound}
use Rattle.mount_box.specs.Carrying.{after_writes, left_by}
use Rattle.mount_box.specs.Handling.{Box, Handling}
use Rattle.link.specs.Calls.{BoxCall, handle, owner_write}
use Rattle.link.specs.Runs.{box_after}
use Rattle.link.proofs.Handlings.{Handled, turns, shows, again, carries_out, handled_view}

pub writes_sound : (ws : List (ℕ × List ℕ)) (c : Contents) → Sound c → Sound (after_writes c ws)
writes_sound [] c ok = ok
writes_sound (w ∷ ws) c ok = writes_sound ws (write_text_of c w.0 w.1).after (texted_sound c w.0 w.1 _ ok (own_texted c w.0 w.1))

pub left_sound : (q : Content) (c : Contents) → Sound c → Sound (left_by c q)
left_sound (read_request indices) c ok = ok
left_sound (write_request writes) c ok = writes_sound writes c ok
left_sound discovery_request c ok = ok
left_sound (read_answer readouts) c ok = ok
left_sound (write_answer codes) c ok = ok
left_sound (discovery_answer readouts) c ok = ok

pub handled_sound : (b : Box) (s : ℕ) {r : Result Message Refusal} {x : Handling} → Sound b.contents → Handled b s r x → Sound x.after.contents
handled_sound b s ok (turns reason) = ok
handled_sound b s ok (shows room d) = ok
handled_sound b s ok (again room t h n) = ok
handled_sound b s ok (carries_out {m = m} room t h) = left_sound m.content b.contents ok

pub box_sound : (b : Box) → Sound b.contents → (cs : List BoxCall) → Sound (box_after b cs).contents
box_sound b ok [] = ok
box_sound b ok (handle s p r stays ∷ cs) = handled_sound (box_after b cs) s (box_sound b ok cs) (handled_view (box_after b cs) s p)
box_sound b ok (owner_write k t text code ∷ cs) =
    let c = (box_after b cs).contents in
    texted_sound c k text (owner_write_of c k t text) (box_sound b ok cs) (owner_texted c k t text)
