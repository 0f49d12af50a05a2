-- What a draft holds after one thing was put behind the other, and what that makes of the row that it borrows.
use Rattle.std.proofs.Common.{◌≡◌, ℕ, ◌+◌, ◌≤◌, Bool, true, false, cond, arith, List, [], ◌∷◌, ◌++◌, length, take, drop, sym, refl, ap, ◌∙◌, subst, append_assoc, append-nil, length-append, length-drop}
use Rattle.std.specs.List.{flat_map}
use Rattle.std.proofs.lemmas.Bool.{cond-true, cond-false, le-leb, leb-true}
use Rattle.std.proofs.lemmas.List.{drop-drop, take_at, drop_at, take-take, length-take-le}
use Rattle.std.proofs.lemmas.List.Concat.{flat_map-append}
use Rattle.protocol.specs.Rows.{put_at, fits}
use Rattle.protocol.proofs.Writes.{length_put}
use Rattle.writer.specs.declared.draft.Draft.{Draft}
use Rattle.writer.specs.Bytes.{colon, parted}
use Rattle.writer.specs.Drafts.{Done, Puts}

done_long : (first done : List ℕ) (d : Draft) → length done ≤ length first → Done first done d → length d.row.now ≡ length first
done_long first done d room h = ap length h.whole ∙ length-append done (drop (length done) first) ∙ omega (arith, length-drop (length done) first)

-- bytes written over the row where the draft goes on
put_done : (first done bytes : List ℕ) (d : Draft) → Done first done d → put_at d.row.now d.at bytes ≡ (done ++ bytes) ++ drop (length (done ++ bytes)) first
put_done first done bytes d h =
    let n = length done in
    let behind = drop n first in
    let one : take d.at d.row.now ≡ done = (λ i. take (h.here i) (h.whole i)) ∙ take_at done behind n refl in
    let k : d.at + length bytes ≡ n + length bytes = ap (λ m. m + length bytes) h.here in
    let two : drop (d.at + length bytes) d.row.now ≡ drop (length (done ++ bytes)) first =
    (λ i. drop (k i) (h.whole i)) ∙ sym (drop-drop (length bytes) n (done ++ behind)) ∙ ap (drop (length bytes)) (drop_at done behind n refl)
    ∙ drop-drop (length bytes) n first ∙ ap (λ m. drop m first) (sym (length-append done bytes)) in
    (λ i. one i ++ (bytes ++ two i)) ∙ sym (append_assoc done bytes (drop (length (done ++ bytes)) first))

-- bytes written into a row where there is room for them, and nothing where there is none
module _ (row bytes after : List ℕ) (at end : ℕ) (e : end ≡ cond (fits row at bytes) (at + length bytes) at) (r : after ≡ cond (fits row at bytes) (put_at row at bytes) row) where
  by_room : (t : Bool) → fits row at bytes ≡ t → (take at after ≡ take at row) × ((at ≤ end) × (length after ≡ length row))
  by_room true t =
      let room = leb-true (at + length bytes) (length row) t in
      let is = r ∙ cond-true _ _ _ t in (
        ap (take at) is ∙ take_at (take at row) (bytes ++ drop (at + length bytes) row) at (length-take-le at row (omega (arith, room))),
        (omega (arith, e ∙ cond-true _ _ _ t), ap length is ∙ length_put row at bytes room),
      )
  by_room false t =
      let is = r ∙ cond-false _ _ _ t in
      (ap (take at) is, (omega (arith, e ∙ cond-false _ _ _ t), ap length is))

-- bytes put into the row
pub puts_one : {a b : Draft} (bytes : List ℕ) → b.row.ghost_name ≡ a.row.ghost_name → b.at ≡ cond (fits a.row.now a.at bytes) (a.at + length bytes) a.at → b.row.now ≡ cond (fits a.row.now a.at bytes) (put_at a.row.now a.at bytes) a.row.now → Puts a bytes b
puts_one {a} {b} bytes same end row =
    let stays = by_room a.row.now bytes b.row.now a.at b.at end row (fits a.row.now a.at bytes) refl in
    record {
      same = same;
      more = λ first done room h.
          let long = done_long first done a (omega arith) h in
          let t : fits a.row.now a.at bytes ≡ true = le-leb (a.at + length bytes) (length a.row.now) (omega (arith, h.here)) in
          record {
            whole = row ∙ cond-true _ _ _ t ∙ put_done first done bytes a h;
            here = end ∙ cond-true _ _ _ t ∙ ap (λ n. n + length bytes) h.here ∙ sym (length-append done bytes);
          };
      held = stays.0;
      on = stays.1.0;
      long = stays.1.1;
    }

pub puts_none : (a : Draft) → Puts a [] a
puts_none a = record {
  same = refl;
  more = λ first done room h. subst (λ l. Done first l a) (sym (append-nil done)) h;
  held = refl;
  on = omega arith;
  long = refl;
}

pub puts_as : {a b : Draft} (xs ys : List ℕ) → xs ≡ ys → Puts a xs b → Puts a ys b
puts_as {a} {b} xs ys e p = subst (λ l. Puts a l b) e p

-- two things, one behind the other
pub puts_both : {a b c : Draft} (xs ys : List ℕ) → Puts a xs b → Puts b ys c → Puts a (xs ++ ys) c
puts_both {a} {b} {c} xs ys p q = record {
  same = q.same ∙ p.same;
  more = λ first done room h.
      let l = length-append xs ys in
      let m = length-append done xs in
      subst (λ d. Done first d c) (append_assoc done xs ys) (q.more first (done ++ xs) (omega arith) (p.more first done (omega arith) h));
  held = sym (take-take a.at b.at c.row.now p.on) ∙ ap (take a.at) q.held ∙ take-take a.at b.at b.row.now p.on ∙ p.held;
  on = omega (arith, p.on, q.on);
  long = q.long ∙ p.long;
}

-- the last field of a group, and a field before others
pub puts_last : {a b : Draft} (f : List ℕ) → Puts a (colon f) b → Puts a (flat_map colon (f ∷ [])) b
puts_last f p = puts_as (colon f) (flat_map colon (f ∷ [])) (sym (append-nil (colon f))) p

pub puts_more : {a b c : Draft} (f : List ℕ) (fs : List (List ℕ)) → Puts a (colon f) b → Puts b (flat_map colon fs) c → Puts a (flat_map colon (f ∷ fs)) c
puts_more f fs p q = puts_both (colon f) (flat_map colon fs) p q

-- fields, and others behind them
pub puts_fields : {a b c : Draft} (fs gs : List (List ℕ)) → Puts a (flat_map colon fs) b → Puts b (flat_map colon gs) c → Puts a (flat_map colon (fs ++ gs)) c
puts_fields fs gs p q = puts_as _ _ (sym (flat_map-append colon fs gs)) (puts_both (flat_map colon fs) (flat_map colon gs) p q)

-- one group more
pub puts_group : {X : Type 0} (fields : X → List (List ℕ)) {a b c : Draft} (xs : List X) (x : X) → Puts a (flat_map colon (flat_map fields xs)) b → Puts b (flat_map colon (fields x)) c → Puts a (flat_map colon (flat_map fields (xs ++ x ∷ []))) c
puts_group fields xs x p q =
    puts_as _ _ (ap (flat_map colon) (ap (λ l. flat_map fields xs ++ l) (sym (append-nil (fields x))) ∙ sym (flat_map-append fields xs (x ∷ []))))
    (puts_fields (flat_map fields xs) (fields x) p q)

-- the fields of a head with others behind them
pub parted_more : (f : List ℕ) (fs gs : List (List ℕ)) → parted ((f ∷ fs) ++ gs) ≡ parted (f ∷ fs) ++ flat_map colon gs
parted_more f fs gs = ap (λ l. f ++ l) (flat_map-append colon fs gs) ∙ sym (append_assoc f (flat_map colon fs) (flat_map colon gs))

-- a whole packet
pub puts_packet : {a b c d : Draft} (version : List ℕ) (head fields : List (List ℕ)) → Puts a (123 ∷ parted (version ∷ head)) b → Puts b (flat_map colon fields) c → Puts c (125 ∷ []) d → Puts a (123 ∷ (parted ((version ∷ head) ++ fields) ++ (125 ∷ []))) d
puts_packet version head fields p q r =
    let front = 123 ∷ parted (version ∷ head) in
    let fs = flat_map colon fields in
    puts_as _ _ (ap (λ l. 123 ∷ (l ++ (125 ∷ []))) (sym (parted_more version head fields))) (puts_both (front ++ fs) (125 ∷ []) (puts_both front fs p q) r)

-- what a draft without bytes makes of its row
pub puts_whole : {a b : Draft} (bytes : List ℕ) → Puts a bytes b → a.at ≡ 0 → length bytes ≤ length a.row.now → Done a.row.now bytes b
puts_whole {a} bytes p h room = p.more a.row.now [] (omega arith) (record { whole = refl; here = h })
