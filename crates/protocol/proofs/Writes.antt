-- Writing into a row.
use Rattle.std.proofs.Common.{◌≡◌, ℕ, ◌+◌, ◌-◌, ◌≤◌, List, ◌++◌, length, take, drop, sym, ap, ◌∙◌, append_assoc, arith, length-append, length-drop}
use borrow.Rule.Slice.PartMut.{put_mid}
use Rattle.std.proofs.lemmas.List.{drop-drop, length-take-le, take_at, drop_at}
use Rattle.protocol.specs.Rows.{put_at}

-- a write through `row[at..end]`, as the checker reads it
pub put_middle : (xs ys : List ℕ) (at : ℕ) → put_mid at (at + length ys - at) xs ys ≡ put_at xs at ys
put_middle xs ys at = let e : at + length ys - at ≡ length ys = omega arith in rw (e, drop-drop (length ys) at xs)

pub length_put : (xs : List ℕ) (at : ℕ) (ys : List ℕ) → at + length ys ≤ length xs → length (put_at xs at ys) ≡ length xs
length_put xs at ys h =
    let a = length-take-le at xs (omega arith) in
    let b = length-drop (at + length ys) xs in
    simp length-append (omega arith)

-- two writes, the second where the first ends
pub put_put : (xs : List ℕ) (at m : ℕ) (ys zs : List ℕ) → m ≡ at + length ys → at + (length ys + length zs) ≤ length xs → put_at (put_at xs at ys) m zs ≡ put_at xs at (ys ++ zs)
put_put xs at m ys zs e h =
    let front = take at xs in
    let a : length front ≡ at = length-take-le at xs (omega arith) in
    let back = drop (at + length ys) xs in
    let whole : put_at xs at ys ≡ (front ++ ys) ++ back = sym (append_assoc front ys back) in
    let long : length (front ++ ys) ≡ m = length-append front ys ∙ omega arith in
    let one : take m (put_at xs at ys) ≡ front ++ ys = ap (take m) whole ∙ take_at (front ++ ys) back m long in
    let two : drop (m + length zs) (put_at xs at ys) ≡ drop (length zs) back =
    ap (drop (m + length zs)) whole ∙ sym (drop-drop (length zs) m ((front ++ ys) ++ back)) ∙ ap (drop (length zs)) (drop_at (front ++ ys) back m long) in
    let three : drop (length zs) back ≡ drop (at + length (ys ++ zs)) xs =
    drop-drop (length zs) (at + length ys) xs ∙ ap (λ n. drop n xs) (simp length-append (omega arith)) in
    rw (one, two, three) (simp append_assoc)

-- what stands up to the end of a write
pub take_put : (xs : List ℕ) (at : ℕ) (ys : List ℕ) → at ≤ length xs → take (at + length ys) (put_at xs at ys) ≡ take at xs ++ ys
take_put xs at ys h =
    let l : length (take at xs ++ ys) ≡ at + length ys = length-append (take at xs) ys ∙ ap (λ n. n + length ys) (length-take-le at xs h) in
    ap (take (at + length ys)) (sym (append_assoc (take at xs) ys (drop (at + length ys) xs))) ∙ take_at (take at xs ++ ys) (drop (at + length ys) xs) (at + length ys) l
