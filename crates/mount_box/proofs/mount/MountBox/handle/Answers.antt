use Rattle.std.proofs.Common.{sym, ap, subst, inl, inr, rules, ◌≤◌, length, arith}
use Rattle.packet.specs.Packets.{message_of, content_of}
use Rattle.mount_box.specs.Answers.{Orders}
use Rattle.mount_box.specs.Views.{box_of, outcome}
use Rattle.mount_box.proofs.Promised.{served, responded}
use Rattle.mount_box.proofs.Served.{found_out}
use Rattle.mount_box.proofs.mount.MountBox.handle.Goals as goal

pub returns-in-ReadRequest : goal.returns-in-ReadRequest
returns-in-ReadRequest g c =
    let b = box_of g.S.Store.meaning c.args.self.now c.args.slab.now c.args.reply.now in
    let m = message_of c.in_ok-request.request in
    let rows : 8192 ≤ length c.args.slab.now = omega arith in
    let room : 512 ≤ length c.args.reply.now = omega arith in
    let o : Orders m.content = elim c.in-ReadRequest.is [ inl w ↦ subst Orders (sym (ap content_of w.1)) tt | inr w ↦ subst Orders (sym (ap content_of w.1)) tt ] in
    let k = responded b c.args.sender c.args.packet.now m (outcome c.serve.result (box_of g.S.Store.meaning c.serve.new.self c.serve.new.slab c.args.reply.now))
    (g.met.S.Store.sound c.args.self.now.store) rows room c.in_ok-request.ensures.read (search rules) (served b c.args.sender m o (c.serve.ensures.served c.args.reply.now)) in
    record { handled = k.handled; repeat = k.repeat; groups = k.groups; others = k.others; back = k.back }

pub returns-in_ok-length-in-DiscoveryRequest : goal.returns-in_ok-length-in-DiscoveryRequest
returns-in_ok-length-in-DiscoveryRequest g c =
    let b = box_of g.S.Store.meaning c.args.self.now c.args.slab.now c.args.reply.now in
    let m = message_of c.in_ok-request.request in
    let rows : 8192 ≤ length c.args.slab.now = omega arith in
    let room : 512 ≤ length c.args.reply.now = omega arith in
    let d = ap content_of c.in-DiscoveryRequest.is in
    let done = c.in_ok-length-in-DiscoveryRequest.ensures in
    let e = found_out b c.args.sender m c.in_ok-length-in-DiscoveryRequest.length c.carry_out.new.row (g.S.Store.meaning c.carry_out.new.store) room d done.answer done.after in
    let k = responded b c.args.sender c.args.packet.now m _ (g.met.S.Store.sound c.args.self.now.store) rows room c.in_ok-request.ensures.read (search rules) e in
    record { handled = k.handled; repeat = k.repeat; groups = k.groups; others = k.others; back = k.back }
