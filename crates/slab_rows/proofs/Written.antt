-- A row of a slab, lent to a writer that writes its front, and put back: what stands there then, and what is handed out.
use Rattle.std.proofs.Common.{◌≡◌, ℕ, ◌+◌, ◌≤◌, List, ◌++◌, length, take, drop, Ok, sym, refl, ap, ◌∙◌, arith}
use borrow.Rule.Slice.PartMut.{put_mid}
use Rattle.std.proofs.lemmas.List.{append_assoc, drop-append-le, take-append-drop, drop-drop, length-take, length-take-le, length-drop, take_at, drop_at}
use Rattle.std.proofs.lemmas.Bool.{le-leb}
use Rattle.protocol.specs.Rows.{put_at}
use Rattle.protocol.proofs.Writes.{length_put}
use Rattle.slab_rows.specs.Places.{piece}

-- what is left of a part behind its first n bytes, and what lies behind the part
rest_joins : (n k : ℕ) (ys : List ℕ) → n ≤ k → k ≤ length ys → drop n (take k ys) ++ drop k ys ≡ drop n ys
rest_joins n k ys h l =
    let m : n ≤ length (take k ys) = simp length-take (omega arith) in
    sym (drop-append-le n (take k ys) (drop k ys) m) ∙ ap (λ z. drop n z) (take-append-drop k ys)

-- a part of k bytes from a on, whose first bytes are now bs, put back
pub part_written : (a k : ℕ) (xs bs ys : List ℕ) → length bs ≤ k → a + k ≤ length xs
    → ys ≡ bs ++ drop (length bs) (take k (drop a xs)) → put_mid a k xs ys ≡ put_at xs a bs
part_written a k xs bs ys h l w =
    let m : k ≤ length (drop a xs) = simp length-drop (omega arith) in
    ap (λ z. put_mid a k xs z) w ∙
    ap (λ z. take a xs ++ z) (append_assoc bs (drop (length bs) (take k (drop a xs))) (drop k (drop a xs)) ∙ ap (λ z. bs ++ z) (rest_joins (length bs) k (drop a xs) h m ∙ drop-drop (length bs) a xs))

-- bytes that were written over memory are handed out again
pub piece_put : (xs bs : List ℕ) (a : ℕ) → a + length bs ≤ length xs → piece (put_at xs a bs) a (length bs) ≡ Ok bs
piece_put xs bs a room =
    let long = length_put xs a bs room in
    let front : length (take a xs) ≡ a = length-take-le a xs (omega arith) in
    let rest = drop (a + length bs) xs in
    rw (le-leb (a + length bs) (length (put_at xs a bs)) (omega arith))
    (ap (λ q. Ok (take (length bs) q)) (drop_at (take a xs) (bs ++ rest) a front) ∙ ap Ok (take_at bs rest (length bs) refl))
