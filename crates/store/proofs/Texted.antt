-- The ways that the write of a text can go, and what they keep.
--     Texted c i bs w         a text written at i gave w: turned down, or taken as a value of some type
--     owner_texted            so goes the owner's write
--     own_texted              and so the write with the element's own type
--     texted_sound            both leave sound contents
use Rattle.std.proofs.Common.{◌≡◌, ℕ, Bool, true, false, cond, eqb, List, Some, None, Option, refl}
use Rattle.protocol.specs.declared.kind.Kind.{Kind}
use Rattle.value.specs.Values.{Datum, value_read}
use Rattle.value.proofs.Readings.{read_valid}
use Rattle.store.specs.Contents.{Contents, Element, Sound, Writing, inside, kind_at, kept, put, barred, write_of}
use Rattle.store.specs.Owner.{mismatched, write_read, owner_write_of, write_as, write_text_of}
use Rattle.store.proofs.Wrote.{Wrote, outside, nothing, shut, done, wrote, put_sound}

pub data Texted (c : Contents) (i : ℕ) (bs : List ℕ) : Writing → Type 0 where
  turned : (n : ℕ) → eqb n 0 ≡ false → Texted c i bs (kept n c)
  taken : (k : Kind) (d : Datum) (e : Element) → inside c i ≡ true → c.element i ≡ Some e → barred e k ≡ false → value_read k bs ≡ Some d → Texted c i bs (record { code = 0; after = put c i (record { kind = k; datum = d }) })

written : (c : Contents) (i : ℕ) (k : Kind) (d : Datum) (bs : List ℕ) (w : Writing) → value_read k bs ≡ Some d → Wrote c i (record { kind = k; datum = d }) w → Texted c i bs w
written c i k d bs w r (outside h) = turned 3 refl
written c i k d bs w r (nothing h s) = turned 1 refl
written c i k d bs w r (shut e h s p) = turned 2 refl
written c i k d bs w r (done e h s p) = taken k d e h s p r

not_read : (c : Contents) (i : ℕ) (bs : List ℕ) (b : Bool) (o : Option Kind) → Texted c i bs (kept (cond b (mismatched o) 3) c)
not_read c i bs false o = turned 3 refl
not_read c i bs true None = turned 1 refl
not_read c i bs true (Some k) = turned 2 refl

read_texted : (c : Contents) (i : ℕ) (k : Kind) (bs : List ℕ) (o : Option Datum) → value_read k bs ≡ o → Texted c i bs (write_read c i k o)
read_texted c i k bs None r = not_read c i bs (inside c i) (kind_at c i)
read_texted c i k bs (Some d) r = written c i k d bs (write_of c i (record { kind = k; datum = d })) r (wrote c i (record { kind = k; datum = d }))

pub owner_texted : (c : Contents) (i : ℕ) (k : Kind) (bs : List ℕ) → Texted c i bs (owner_write_of c i k bs)
owner_texted c i k bs = read_texted c i k bs (value_read k bs) refl

absent : (c : Contents) (i : ℕ) (bs : List ℕ) (b : Bool) → Texted c i bs (kept (cond b 1 3) c)
absent c i bs false = turned 3 refl
absent c i bs true = turned 1 refl

own : (c : Contents) (i : ℕ) (bs : List ℕ) (o : Option Kind) → Texted c i bs (write_as o c i bs)
own c i bs None = absent c i bs (inside c i)
own c i bs (Some k) = owner_texted c i k bs

pub own_texted : (c : Contents) (i : ℕ) (bs : List ℕ) → Texted c i bs (write_text_of c i bs)
own_texted c i bs = own c i bs (kind_at c i)

pub texted_sound : (c : Contents) (i : ℕ) (bs : List ℕ) (w : Writing) → Sound c → Texted c i bs w → Sound w.after
texted_sound c i bs w ok (turned n h) = ok
texted_sound c i bs w ok (taken k d e h s p r) = put_sound c i (record { kind = k; datum = d }) ok h (read_valid k bs d r)
