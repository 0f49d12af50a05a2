-- The reply to a request that was read is written, and read back.
--     reply_good    what is to be shown of the reply for it to be written and read back
--     reply_back    it is read back
--     reply_size    and has at most 485 bytes
use Rattle.std.proofs.Common.{◌≡◌, ℕ, ◌≤◌, Bool, true, false, cond, List, [], ◌∷◌, map, length, is_some, Some, None, Ok, Option, sym, refl, ap, ◌∙◌, subst, arith}
use Rattle.std.specs.List.{AllByRecursion}
use Rattle.std.proofs.lemmas.List.{length-map}
use Rattle.packet.specs.Heads.{Goes}
use Rattle.packet.specs.Groups.{KeptReadout}
use Rattle.packet.specs.Messages.{Message, Content, read_request, write_request, discovery_request, read_answer, write_answer, discovery_answer, command_of, count_of, packet_of, Bounded, Kept}
use Rattle.packet.proofs.Bounds.{bounded, kept, goes}
use Rattle.writer.specs.Bytes.{bytes_of}
use Rattle.writer.proofs.Goods.{Good, good, good_back, good_size}
use Rattle.store.specs.Contents.{Contents, Element, Sound, ValidIn, inside, found, refused}
use Rattle.mount_box.specs.Carrying.{shown_by, shown, replied}
use Rattle.mount_box.specs.Handling.{reply_to}
use Rattle.mount_box.proofs.Answering.{length_codes}

-- a value of its type, or a code other than 0
shown_kept : (c : Contents) → Sound c → (i : ℕ) → KeptReadout (shown c i)
shown_kept c ok i = go (inside c i) (c.element i) (ok.valid i)
  where
    go : (v : Bool) (o : Option Element) → ValidIn o → KeptReadout (shown_by (cond v (found o) (refused 3)).value (cond v (found o) (refused 3)).code)
    go false o h = λ z. omega arith
    go true None h = λ z. omega arith
    go true (Some e) h = ap is_some h

all_shown : (c : Contents) → Sound c → (is : List ℕ) → AllByRecursion KeptReadout (map (shown c) is)
all_shown c ok [] = tt
all_shown c ok (i ∷ is) = (shown_kept c ok i, all_shown c ok is)

-- as many groups as were asked for, with the same command
pub replied_count : (c : Contents) (q : Content) → count_of (replied c q) ≡ count_of q
replied_count c (read_request is) = length-map is (shown c)
replied_count c (write_request ws) = length_codes c ws
replied_count c discovery_request = refl
replied_count c (read_answer xs) = refl
replied_count c (write_answer cs) = refl
replied_count c (discovery_answer xs) = refl

pub replied_command : (c : Contents) (q : Content) → command_of (replied c q) ≡ command_of q
replied_command c (read_request is) = refl
replied_command c (write_request ws) = refl
replied_command c discovery_request = refl
replied_command c (read_answer xs) = refl
replied_command c (write_answer cs) = refl
replied_command c (discovery_answer xs) = refl

replied_kept : (c : Contents) → Sound c → (q : Content) → Kept q → Kept (replied c q)
replied_kept c ok (read_request is) k = all_shown c ok is
replied_kept c ok (write_request ws) k = tt
replied_kept c ok discovery_request k = (shown_kept c ok 2, (shown_kept c ok 3, tt))
replied_kept c ok (read_answer xs) k = k
replied_kept c ok (write_answer cs) k = k
replied_kept c ok (discovery_answer xs) k = k

module _ (c : Contents) (ok : Sound c) (p : List ℕ) (m : Message) (e : packet_of p ≡ Ok m) where
  reply_bounded : Bounded (reply_to c m)
  reply_bounded =
      let b = bounded p m e in
      let n = replied_count c m.content in
      record { number = b.number; some = omega arith; few = omega arith; both = λ d. n ∙ b.both (sym (replied_command c m.content) ∙ d) }

  pub reply_good : Good (reply_to c m)
  reply_good = good (reply_to c m) reply_bounded (subst (Goes m.version) (sym (replied_command c m.content)) (goes p m e)) (replied_kept c ok m.content (kept p m e))

  pub reply_back : packet_of (bytes_of (reply_to c m)) ≡ Ok (reply_to c m)
  reply_back = good_back (reply_to c m) reply_good

  pub reply_size : length (bytes_of (reply_to c m)) ≤ 485
  reply_size = good_size (reply_to c m) reply_good
