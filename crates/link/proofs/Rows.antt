-- What a write to a row of a slab leaves, and what lies at the place of a packet.
use Rattle.std.proofs.Common.{◌≡◌, ℕ, ◌+◌, ◌-◌, ◌*◌, ◌<◌, ◌≤◌, ◌⊎◌, List, ◌++◌, length, take, drop, Ok, sym, refl, ap, ◌∙◌, inl, inr, append_assoc, arith, length-append, length-drop}
use Rattle.std.proofs.lemmas.List.{take_at, drop_at, drop-append-le, take-append-le, drop-drop, take-append-drop, length-take-le}
use Rattle.std.proofs.lemmas.Bool.{le-leb, cases_lt}
use Rattle.protocol.specs.Rows.{put_at}
use Rattle.protocol.proofs.Writes.{length_put}
use Rattle.slab_rows.specs.Rows.{rowed, in_row}
use Rattle.slab_rows.specs.Places.{part_of}
use Rattle.slab_rows.specs.declared.place.Place.TheVariants.{Slab, Reply}

-- what lies in the front part
in_front : (p q : List ℕ) (b n : ℕ) → b + n ≤ length p → take n (drop b (p ++ q)) ≡ take n (drop b p)
in_front p q b n h =
    let l = length-drop b p in
    ap (take n) (drop-append-le b p q (omega arith)) ∙ take-append-le n (drop b p) q (omega arith)

-- a write leaves what lies before it, and what lies behind it
put_before : (xs : List ℕ) (a : ℕ) (ys : List ℕ) (b n : ℕ) → b + n ≤ a → a ≤ length xs → take n (drop b (put_at xs a ys)) ≡ take n (drop b xs)
put_before xs a ys b n h l =
    let e = length-take-le a xs l in
    in_front (take a xs) (ys ++ drop (a + length ys) xs) b n (omega arith)
    ∙ sym (in_front (take a xs) (drop a xs) b n (omega arith))
    ∙ ap (λ z. take n (drop b z)) (take-append-drop a xs)

put_behind : (xs : List ℕ) (a : ℕ) (ys : List ℕ) (b : ℕ) → a + length ys ≤ b → a ≤ length xs → drop b (put_at xs a ys) ≡ drop b xs
put_behind xs a ys b h l =
    let front = take a xs in
    let end = a + length ys in
    let back = drop end xs in
    let e = length-take-le a xs l in
    let long : length (front ++ ys) ≡ end = length-append front ys ∙ omega arith in
    let sum : end + (b - end) ≡ b = omega arith in
    ap (λ n. drop n (put_at xs a ys)) (sym sum)
    ∙ sym (drop-drop (b - end) end (put_at xs a ys))
    ∙ ap (drop (b - end)) (ap (drop end) (sym (append_assoc front ys back)) ∙ drop_at (front ++ ys) back end long)
    ∙ drop-drop (b - end) end xs
    ∙ ap (λ n. drop n xs) sum

-- and lies there itself
put_there : (xs : List ℕ) (a : ℕ) (ys : List ℕ) → a ≤ length xs → take (length ys) (drop a (put_at xs a ys)) ≡ ys
put_there xs a ys l =
    let back = drop (a + length ys) xs in
    ap (take (length ys)) (drop_at (take a xs) (ys ++ back) a (length-take-le a xs l)) ∙ take_at ys back (length ys) refl

module _ (slab : List ℕ) (k : ℕ) (bytes : List ℕ) (low : k < 16) (small : length bytes ≤ 512) (full : 8192 ≤ length slab) where
  pub row_length : length (rowed slab k bytes) ≡ length slab
  row_length = length_put slab (512 * k) bytes (omega arith)

  pub row_here : in_row (rowed slab k bytes) k (length bytes) ≡ bytes
  row_here = put_there slab (512 * k) bytes (omega arith)

  pub row_other : (j n : ℕ) → (j ≡ k → ⊥) → n ≤ 512 → in_row (rowed slab k bytes) j n ≡ in_row slab j n
  row_other j n d h = go (cases_lt j k)
    where
      go : (j < k) ⊎ (k ≤ j) → in_row (rowed slab k bytes) j n ≡ in_row slab j n
      go (inl l) = put_before slab (512 * k) bytes (512 * j) n (omega arith) (omega arith)
      go (inr l) = ap (take n) (put_behind slab (512 * k) bytes (512 * j) (omega arith) (omega arith))

-- what lies at a place in a row
pub part_row : (slab reply : List ℕ) (k n : ℕ) → k < 16 → n ≤ 512 → 8192 ≤ length slab → part_of (Slab (512 * k) n) slab reply ≡ Ok (in_row slab k n)
part_row slab reply k n low small full = rw (le-leb (512 * k + n) (length slab) (omega arith))

-- what was put at the start of the reply buffer
pub part_reply : (slab reply bytes : List ℕ) → length bytes ≤ length reply → part_of (Reply (length bytes)) slab (put_at reply 0 bytes) ≡ Ok bytes
part_reply slab reply bytes h =
    let l = length_put reply 0 bytes (omega arith) in
    rw (le-leb (0 + length bytes) (length (put_at reply 0 bytes)) (omega arith)) (ap Ok (put_there reply 0 bytes (omega arith)))
