-- Bytes written over memory: what stays.
use Rattle.std.proofs.Common.{◌≡◌, ℕ, ◌+◌, ◌-◌, ◌≤◌, List, ◌++◌, length, get_or, take, drop, refl, ap, ◌∙◌, arith}
use Rattle.std.proofs.lemmas.List.{length-take-le, get_or_append_left, get_or-append_right, get_or-take, get_or-drop}
use Rattle.protocol.specs.Rows.{put_at}
use Rattle.protocol.proofs.Writes.{length_put}
use Rattle.mount_box.specs.Promises.{Outside}

pub put_outside : (xs bs : List ℕ) (a : ℕ) → a + length bs ≤ length xs → Outside a (length bs) xs (put_at xs a bs)
put_outside xs bs a room =
    let front : length (take a xs) ≡ a = length-take-le a xs (omega arith) in
    record {
      long = length_put xs a bs room;
      below = λ i h. get_or_append_left (take a xs) (bs ++ drop (a + length bs) xs) 0 i (omega arith) ∙ get_or-take a xs i 0 h;
      behind = λ i h.
          get_or-append_right (take a xs) (bs ++ drop (a + length bs) xs) a i 0 front (omega arith)
          ∙ get_or-append_right bs (drop (a + length bs) xs) (length bs) (i - a) 0 refl (omega arith)
          ∙ get_or-drop (a + length bs) xs (i - a - length bs) 0
          ∙ ap (λ k. get_or xs k 0) (omega arith);
    }
