-- Opening goes as the judgement on it says: it is refused, or the packet is written and noted.
use Rattle.std.proofs.Common.{◌≡◌, ℕ, ◌+◌, ◌-◌, ◌*◌, ◌<◌, ◌≤◌, Bool, true, false, cond, not, ltb, leb, List, ◌++◌, length, take, drop, is_some, Ok, Err, Result, sym, refl, ap, ◌∙◌, subst, arith}
use borrow.Rule.Slice.PartMut.{put_mid}
use Rattle.std.proofs.lemmas.List.{length-take-le, length-append, length-drop, take_at, drop_at, append_assoc}
use Rattle.std.proofs.lemmas.Bool.{le-ltb, le-leb, leb-false, cond-true, cond-false}
use Rattle.protocol.specs.Rows.{put_at}
use Rattle.protocol.specs.declared.refusal.Refusal.{Refusal}
use Rattle.protocol.specs.declared.refusal.Refusal.TheVariants.{Time, ShortMemory, Unknown, Limit, StillWaits, Exhausted}
use Rattle.packet.specs.Messages.{Content}
use Rattle.writer.specs.Bytes.{bytes_of}
use Rattle.writer.specs.Orders.{asked}
use Rattle.writer.specs.Written.{at_start, written, ReadsBack}
use Rattle.slab_rows.specs.Places.{piece}
use Rattle.slab_rows.specs.Rows.{rowed}
use Rattle.slab_rows.specs.declared.place.Place.TheVariants.{Slab}
use Rattle.slab_rows.proofs.Written.{part_written}
use Rattle.catalogue.specs.declared.told.Sent.{Sent}
use Rattle.catalogue.specs.Stations.{Station, untimely, unknown}
use Rattle.catalogue.specs.Opening.{Opening, not_opened, partner, asking, count_opened, opened, opening}
use Rattle.catalogue.specs.Judging.{judged, placed}
use Rattle.catalogue.specs.Promises.{Outside, PacketThere}

-- what is put over a row's front leaves what lies before and behind, and can be handed out
put_outside : (xs bs : List ℕ) (a : ℕ) → a ≤ length xs → (take a (put_at xs a bs) ≡ take a xs) × (drop (a + length bs) (put_at xs a bs) ≡ drop (a + length bs) xs)
put_outside xs bs a h =
    let front : length (take a xs) ≡ a = length-take-le a xs h in
    let rest = drop (a + length bs) xs in
    let both : length (take a xs ++ bs) ≡ a + length bs = length-append (take a xs) bs ∙ ap (λ n. n + length bs) front in
    (take_at (take a xs) (bs ++ rest) a front, ap (λ ys. drop (a + length bs) ys) (sym (append_assoc (take a xs) bs rest)) ∙ drop_at (take a xs ++ bs) rest (a + length bs) both)

put_there : (xs bs : List ℕ) (a : ℕ) → a + length bs ≤ length xs → piece (put_at xs a bs) a (length bs) ≡ Ok bs
put_there xs bs a h =
    let front : length (take a xs) ≡ a = length-take-le a xs (omega arith) in
    let rest = drop (a + length bs) xs in
    let long : length (put_at xs a bs) ≡ length xs = length-append (take a xs) (bs ++ rest) ∙ simp (length-append, length-drop) (omega arith) in
    let inside : leb (a + length bs) (length (put_at xs a bs)) ≡ true = le-leb _ _ (omega arith) in
    cond-true (leb (a + length bs) (length (put_at xs a bs))) _ _ inside
    ∙ ap (λ ys. Ok (take (length bs) ys)) (drop_at (take a xs) (bs ++ rest) a front) ∙ ap Ok (take_at bs rest (length bs) refl)

-- what comes of a judgement
abbrev outcome : Station → List ℕ → ℕ → ℕ → Content → Result ℕ Refusal → Opening
outcome s slab k time content (Err reason) = not_opened s slab reason
outcome s slab k time content (Ok number) = opened s slab k time content (bytes_of (asked number content))

-- one ground after the other
grounds : {A B : Type 0} (f : A → B) (a b c d e g : Bool) (x₁ x₂ x₃ x₄ x₅ x₆ x : A)
    → cond a (f x₁) (cond b (f x₂) (cond c (f x₃) (cond d (f x₄) (cond e (f x₅) (cond g (f x₆) (f x))))))
    ≡ f (cond a x₁ (cond b x₂ (cond c x₃ (cond d x₄ (cond e x₅ (cond g x₆ x))))))
grounds f true b c d e g x₁ x₂ x₃ x₄ x₅ x₆ x = refl
grounds f false true c d e g x₁ x₂ x₃ x₄ x₅ x₆ x = refl
grounds f false false true d e g x₁ x₂ x₃ x₄ x₅ x₆ x = refl
grounds f false false false true e g x₁ x₂ x₃ x₄ x₅ x₆ x = refl
grounds f false false false false true g x₁ x₂ x₃ x₄ x₅ x₆ x = refl
grounds f false false false false false true x₁ x₂ x₃ x₄ x₅ x₆ x = refl
grounds f false false false false false false x₁ x₂ x₃ x₄ x₅ x₆ x = refl

-- where none holds, the third does not
none_held : {A E : Type 0} (a b c d e g : Bool) (x₁ x₂ x₃ x₄ x₅ x₆ : E) (x y : A)
    → cond a (Err x₁) (cond b (Err x₂) (cond c (Err x₃) (cond d (Err x₄) (cond e (Err x₅) (cond g (Err x₆) (Ok x)))))) ≡ Ok y → c ≡ false
none_held true b c d e g x₁ x₂ x₃ x₄ x₅ x₆ x y h = cc
none_held false true c d e g x₁ x₂ x₃ x₄ x₅ x₆ x y h = cc
none_held false false true d e g x₁ x₂ x₃ x₄ x₅ x₆ x y h = cc
none_held false false false d e g x₁ x₂ x₃ x₄ x₅ x₆ x y h = refl

-- the packet with the number n, of this length, is written and noted: what that leaves of the slab
pub record RowWritten (s : Station) (slab : List ℕ) (k time : ℕ) (allowed : Bool) (content : Content) (n len : ℕ) (after : List ℕ) : Type 0 where
  pub defined : after ≡ (opening s slab k time allowed content).slab
  pub outside : Outside (Slab (512 * k) len) slab after
  pub back : (reply : List ℕ) → PacketThere content after (record { number = n; place = Slab (512 * k) len }) reply

module _ (s : Station) (slab : List ℕ) (k time : ℕ) (allowed : Bool) (content : Content) where
  -- the station once a packet of n bytes is noted
  abbrev pub opened_after : ℕ → Station
  opened_after n = placed s k (asking s.timing time content n (partner s k)) time (count_opened s.counts)

  pub opening_judged : opening s slab k time allowed content ≡ outcome s slab k time content (judged s (length slab) k time allowed)
  opening_judged =
      grounds (outcome s slab k time content) (untimely s time) (ltb (length slab) 8192) (unknown s k) (not allowed) (is_some (partner s k).waiting) (leb 65536 (partner s k).next)
      (Err Time) (Err ShortMemory) (Err Unknown) (Err Limit) (Err StillWaits) (Err Exhausted) (Ok (partner s k).next)

  -- a refusal
  pub opening_refused : (reason : Refusal) → judged s (length slab) k time allowed ≡ Err reason → opening s slab k time allowed content ≡ not_opened s slab reason
  opening_refused reason j = opening_judged ∙ ap (outcome s slab k time content) j

  -- where it is accepted, there is such a partner, and the packet is written and noted
  pub opening_accepted : (sent : Sent) → (opening s slab k time allowed content).answer ≡ Ok sent
      → (k < length s.partners) × ((n : ℕ) × ((opening s slab k time allowed content).after ≡ opened_after n) × (sent ≡ record { number = (partner s k).next; place = Slab (512 * k) n }))
  opening_accepted sent h = by_judgement (judged s (length slab) k time allowed) refl
    where
      by_judgement : (r : Result ℕ Refusal) → judged s (length slab) k time allowed ≡ r
          → (k < length s.partners) × ((n : ℕ) × ((opening s slab k time allowed content).after ≡ opened_after n) × (sent ≡ record { number = (partner s k).next; place = Slab (512 * k) n }))
      by_judgement (Err reason) j =
          let t : ◌≡◌ {A = Result Sent Refusal} (Ok sent) (Err reason) = sym h ∙ ap (λ x. x.answer) (opening_refused reason j) in
          cc
      by_judgement (Ok number) j =
          let e = opening_judged ∙ ap (outcome s slab k time content) j in
          let n = length (bytes_of (asked number content)) in
          let t : ◌≡◌ {A = Result Sent Refusal} (Ok sent) (Ok (record { number = (partner s k).next; place = Slab (512 * k) n })) = sym h ∙ ap (λ x. x.answer) e in
          let known = none_held (untimely s time) (ltb (length slab) 8192) (unknown s k) (not allowed) (is_some (partner s k).waiting) (leb 65536 (partner s k).next) Time ShortMemory Unknown Limit StillWaits Exhausted (partner s k).next number j in
          (leb-false (length s.partners) k known, (n, ap (λ x. x.after) e, cc))

  -- where the packet with the number n is written to the partner's row
  module _ (n : ℕ) (j : judged s (length slab) k time allowed ≡ Ok n) (a : allowed ≡ true) (inside : 512 * k + 512 ≤ length slab) where
    -- the row that is lent to the writer
    abbrev row : List ℕ
    row = take (512 * k + 512 - 512 * k) (drop (512 * k) slab)

    abbrev bytes : List ℕ
    bytes = bytes_of (asked n content)

    -- the packet is written to its front
    at_front : written allowed (asked n content) row ≡ at_start bytes row
    at_front =
        let w : 512 * k + 512 - 512 * k ≤ length (drop (512 * k) slab) = simp length-drop (omega arith) in
        let t : ltb (length row) 512 ≡ false = le-ltb (length row) 512 (omega (arith, length-take-le (512 * k + 512 - 512 * k) (drop (512 * k) slab) w)) in
        cond-false (ltb (length row) 512) _ _ t ∙ cond-true allowed _ _ a

    module _ (len : ℕ) (ys : List ℕ) (t : Ok len ≡ (written allowed (asked n content) row).told) (r : ys ≡ (written allowed (asked n content) row).row) (b : ReadsBack (asked n content) len) where
      -- the slab afterwards
      abbrev after : List ℕ
      after = put_mid (512 * k) (512 * k + 512 - 512 * k) slab ys

      told_length : len ≡ length bytes
      told_length =
          let told : ◌≡◌ {A = Result ℕ Refusal} (Ok len) (Ok (length bytes)) = t ∙ ap (λ x. x.told) at_front in
          cc

      lies : after ≡ rowed slab k bytes
      lies = part_written (512 * k) (512 * k + 512 - 512 * k) slab bytes ys (omega (arith, b.0, told_length)) (omega (arith, inside)) (r ∙ ap (λ x. x.row) at_front)

      -- the slab is as defined, what lies before and behind the packet is left, and the packet can be handed out again
      pub row_written : RowWritten s slab k time allowed content n len after
      row_written = record {
        defined = lies ∙ sym (ap (λ x. x.slab) (opening_judged ∙ ap (outcome s slab k time content) j));
        outside = subst (λ x. Outside (Slab (512 * k) x) slab after) (sym told_length) (subst (Outside (Slab (512 * k) (length bytes)) slab) (sym lies) (put_outside slab bytes (512 * k) (omega (arith, inside))));
        back = λ reply. record {
          bytes = bytes;
          there =
              ap (λ x. piece after (512 * k) x) told_length ∙ ap (λ x. piece x (512 * k) (length bytes)) lies
              ∙ put_there slab bytes (512 * k) (omega (arith, b.0, told_length, inside));
          reads = b.1;
          short = omega (arith, b.0, told_length);
        };
      }
