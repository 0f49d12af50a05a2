-- Fields that a packet can hold: no reserved byte, and UTF-8.
use Rattle.std.proofs.Common.{◌≡◌, ℕ, zero, suc, ◌+◌, ◌-◌, ◌<◌, ◌≤◌, true, false, not, ◌||◌, eqb, List, [], ◌∷◌, ◌++◌, length, get_or, Ok, IsUtf8, refl, ap, ◌∙◌, append-nil, arith, length-append}
use Rattle.std.specs.List.{flat_map, AllByRecursion}
use Rattle.std.proofs.lemmas.Str.Ascii.{IsAscii-cons, IsAscii-nil}
use Rattle.std.proofs.lemmas.List.{take_at, get_or_at}
use Rattle.std.proofs.lemmas.Str.{IsUtf8-append, IsUtf8-from_ascii, IsUtf8-nil}
use Rattle.std.proofs.lemmas.Bool.{and_from, and_parts, or_parts, not-true, eqb-false, le-leb, le-ltb, eq-eqb}
use Rattle.protocol.specs.Texts.{reserved, free, sized, textual}
use Rattle.protocol.proofs.PlainText.{utf8_decides}
use Rattle.field.specs.Fields.{fields}
use Rattle.field.specs.Frames.{plain, inside, framed, fields_of}
use Rattle.field.proofs.Splits.{Free, fields_last, fields_more}
use Rattle.packet.proofs.Pieces.{Piece}
use Rattle.writer.specs.Bytes.{colon, parted}

pub clean_textual : (f : List ℕ) → textual f ≡ true → Piece f
clean_textual f t =
    let p = (and_parts (sized f) _ t).1 in
    let q = and_parts (free f) _ p in
    record { bare = q.0; text = (utf8_decides f).0 q.1 }

-- what a byte that is not reserved is not
unreserved : (b : ℕ) → not (reserved b) ≡ true → (eqb b 123 ≡ false) × ((eqb b 125 ≡ false) × (eqb b 58 ≡ false))
unreserved b h =
    let p = or_parts (eqb b 123) (eqb b 125 || eqb b 58) (not-true (reserved b) h) in
    let q = or_parts (eqb b 125) (eqb b 58) p.1 in
    (p.0, (q.0, q.1))

plain_bare : (f : List ℕ) → free f ≡ true → plain f ≡ true
plain_bare [] h = refl
plain_bare (b ∷ bs) h =
    let p = and_parts (not (reserved b)) (free bs) h in
    let q = unreserved b p.0 in
    rw (q.0, q.1.0) (plain_bare bs p.1)

bare_colon : (f : List ℕ) → free f ≡ true → Free 58 f
bare_colon [] h i l e = absurd (omega arith)
bare_colon (b ∷ bs) h zero l e = let p = and_parts (not (reserved b)) (free bs) h in eqb-false b 58 (unreserved b p.0).1.1 e
bare_colon (b ∷ bs) h (suc i) l e = let p = and_parts (not (reserved b)) (free bs) h in bare_colon bs p.1 i (omega arith) e

-- fields that are parted by colons are the fields of what comes of it
pub fields_parted : (f : List ℕ) (fs : List (List ℕ)) → AllByRecursion Piece (f ∷ fs) → fields (parted (f ∷ fs)) ≡ f ∷ fs
fields_parted f [] h = ap fields (append-nil f) ∙ fields_last f (bare_colon f h.0.bare)
fields_parted f (g ∷ fs) h = fields_more f (parted (g ∷ fs)) (bare_colon f h.0.bare) ∙ ap (λ l. f ∷ l) (fields_parted g fs h.1)

plain_append : (xs ys : List ℕ) → plain xs ≡ true → plain ys ≡ true → plain (xs ++ ys) ≡ true
plain_append [] ys a b = b
plain_append (x ∷ xs) ys a b = let p = and_parts (not (eqb x 123 || eqb x 125)) (plain xs) a in and_from _ _ p.0 (plain_append xs ys p.1 b)

plain_colons : (fs : List (List ℕ)) → AllByRecursion Piece fs → plain (flat_map colon fs) ≡ true
plain_colons [] h = refl
plain_colons (f ∷ fs) h = plain_append f (flat_map colon fs) (plain_bare f h.0.bare) (plain_colons fs h.1)

pub plain_parted : (fs : List (List ℕ)) → AllByRecursion Piece fs → plain (parted fs) ≡ true
plain_parted [] h = refl
plain_parted (f ∷ fs) h = plain_append f (flat_map colon fs) (plain_bare f h.0.bare) (plain_colons fs h.1)

one : (b : ℕ) → b < 128 → IsUtf8 (b ∷ [])
one b h = IsUtf8-from_ascii (b ∷ []) (IsAscii-cons b [] h IsAscii-nil)

text_colons : (fs : List (List ℕ)) → AllByRecursion Piece fs → IsUtf8 (flat_map colon fs)
text_colons [] h = IsUtf8-nil
text_colons (f ∷ fs) h = IsUtf8-append (58 ∷ []) (f ++ flat_map colon fs) (one 58 (omega arith)) (IsUtf8-append f (flat_map colon fs) h.0.text (text_colons fs h.1))

pub text_parted : (fs : List (List ℕ)) → AllByRecursion Piece fs → IsUtf8 (parted fs)
text_parted [] h = IsUtf8-nil
text_parted (f ∷ fs) h = IsUtf8-append f (flat_map colon fs) h.0.text (text_colons fs h.1)

-- a body between braces
framed_body : (body : List ℕ) → plain body ≡ true → (framed (123 ∷ (body ++ (125 ∷ []))) ≡ true) × (inside (123 ∷ (body ++ (125 ∷ []))) ≡ body)
framed_body body p =
    let l : length (body ++ (125 ∷ [])) ≡ length body + 1 = length-append body (125 ∷ []) in
    let ins : inside (123 ∷ (body ++ (125 ∷ []))) ≡ body = take_at body (125 ∷ []) _ (omega arith) in
    let shut : get_or ((123 ∷ body) ++ 125 ∷ []) (length (123 ∷ (body ++ (125 ∷ []))) - 1) 0 ≡ 125 = get_or_at (123 ∷ body) 125 [] 0 _ (omega arith) in
    (and_from _ _ (le-leb 2 _ (omega arith)) (and_from _ _ refl (and_from _ _ (eq-eqb _ 125 shut) (ap plain ins ∙ p))), ins)

pub fields_body : (body : List ℕ) → length body ≤ 510 → plain body ≡ true → IsUtf8 body → fields_of (123 ∷ (body ++ (125 ∷ []))) ≡ Ok (fields body)
fields_body body short p a =
    let bs = 123 ∷ (body ++ (125 ∷ [])) in
    let l : length (body ++ (125 ∷ [])) ≡ length body + 1 = length-append body (125 ∷ []) in
    let f = framed_body body p in
    let u = (utf8_decides bs).1 (IsUtf8-append (123 ∷ []) (body ++ (125 ∷ [])) (one 123 (omega arith)) (IsUtf8-append body (125 ∷ []) a (one 125 (omega arith)))) in
    rw (le-ltb 512 (length bs) (omega arith), f.0, u, f.1)
