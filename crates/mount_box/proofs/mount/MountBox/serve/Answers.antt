use Rattle.std.proofs.Common.{◌≤◌, refl, rules}
use Rattle.packet.specs.Packets.{message_of}
use Rattle.mount_box.specs.Views.{box_of}
use Rattle.mount_box.proofs.Served.{not_refused, served_size, due_served}
use Rattle.mount_box.proofs.mount.MountBox.serve.Goals as goal

pub overflow_cast-length : goal.overflow_cast-length
overflow_cast-length g c =
    let few : c.in_ok-length-in-Due.length ≤ 485 =
    served_size (g.S.Store.meaning c.args.self.now.store) (message_of c.args.request) c.in-Due.row c.in_ok-length-in-Due.length c.args.slab.now c.carry_out.new.row c.in_ok-row.field-0
    (g.met.S.Store.sound c.args.self.now.store) c.requires.received c.requires.orders c.in_ok-row.ensures.within c.in-Due.is c.requires.room c.in_ok-length-in-Due.ensures.answer in
    search rules

pub returns-in_ok-length-in-Due : goal.returns-in_ok-length-in-Due
returns-in_ok-length-in-Due g c =
    let at = c.in_ok-row.ensures in
    let done = c.in_ok-length-in-Due.ensures in
    record {
      served = λ reply.
          due_served (box_of g.S.Store.meaning c.args.self.now c.args.slab.now reply) c.args.sender c.in-Due.row c.in_ok-length-in-Due.length (message_of c.args.request) c.in_ok-row.field-0 _ c.carry_out.new.row (g.S.Store.meaning c.carry_out.new.store)
          (g.met.S.Store.sound c.args.self.now.store) c.requires.received c.requires.orders c.requires.room at.within at.standing c.in-Due.is done.answer refl done.after;
    }

pub returns-in_err-length-in-Due : goal.returns-in_err-length-in-Due
returns-in_err-length-in-Due g c =
    absurd (not_refused (g.S.Store.meaning c.args.self.now.store) (message_of c.args.request) c.in-Due.row c.in_err-length-in-Due.field-0.0 c.args.slab.now c.carry_out.new.row c.in_ok-row.field-0
    c.requires.orders c.in_ok-row.ensures.within c.in-Due.is c.requires.room c.in_err-length-in-Due.ensures.answer)
