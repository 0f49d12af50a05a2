use Rattle.std.proofs.Common.{◌^◌, ◌<◌, true, false, pos, w16, w32, w64, SFits, rules}
use Rattle.std.proofs.lemmas.Int.{to_z-of_z}
use Rattle.protocol.specs.Held.{text_bytes}
use Rattle.value.specs.Meant.{number_of}
use Rattle.value.specs.declared.value.Value.TheVariants as V
use Rattle.value.proofs.Readings.{truth_textual, spells}
use Rattle.value.proofs.value.Value.spelling.Goals as goal

pub text_of-requires : goal.text_of-requires
text_of-requires c = truth_textual true

pub text_of-requires-in-Bo-false : goal.text_of-requires-in-Bo-false
text_of-requires-in-Bo-false c = truth_textual false

pub returns-in-In : goal.returns-in-In
returns-in-In c =
    let n = c.in-In.n in
    let f : SFits w32 c.in-In.n = search rules in
    let g : SFits w64 c.in-In.n = search rules in
    let s = spells c.args.self.now (V.In n) (text_bytes c.spell_whole.result) c.in-In.is f (simp to_z-of_z at (rw c.from.ensures at c.spell_whole.ensures)) in
    record { bytes = s.bytes; back = s.back; plain = s.plain; once = s.once }

pub returns-in-Sh : goal.returns-in-Sh
returns-in-Sh c =
    let n = c.in-Sh.n in
    let f : SFits w16 c.in-Sh.n = search rules in
    let g : SFits w64 c.in-Sh.n = search rules in
    let s = spells c.args.self.now (V.Sh n) (text_bytes c.spell_whole-in-Sh.result) c.in-Sh.is f (simp to_z-of_z at (rw c.from-in-Sh.ensures at c.spell_whole-in-Sh.ensures)) in
    record { bytes = s.bytes; back = s.back; plain = s.plain; once = s.once }

pub returns-in-USh : goal.returns-in-USh
returns-in-USh c =
    let n = c.in-USh.n in
    let f : c.in-USh.n < 2 ^ 16 = search rules in
    let g : SFits w64 (pos c.in-USh.n) = search rules in
    let s = spells c.args.self.now (V.USh n) (text_bytes c.spell_whole-in-USh.result) c.in-USh.is f (simp to_z-of_z at (rw c.from-in-USh.ensures at c.spell_whole-in-USh.ensures)) in
    record { bytes = s.bytes; back = s.back; plain = s.plain; once = s.once }

pub returns-in-Lo : goal.returns-in-Lo
returns-in-Lo c =
    let n = c.in-Lo.n in
    let g : SFits w64 (number_of c.in-Lo.n) = search rules in
    let s = spells c.args.self.now (V.Lo n) (text_bytes c.spell_whole-in-Lo.result) c.in-Lo.is tt (simp to_z-of_z at (rw c.from-in-Lo.ensures at c.spell_whole-in-Lo.ensures)) in
    record { bytes = s.bytes; back = s.back; plain = s.plain; once = s.once }

pub returns-in-By : goal.returns-in-By
returns-in-By c =
    let n = c.in-By.n in
    let f : c.in-By.n < 2 ^ 8 = search rules in
    let g : SFits w64 (pos c.in-By.n) = search rules in
    let s = spells c.args.self.now (V.By n) (text_bytes c.spell_whole-in-By.result) c.in-By.is f (simp to_z-of_z at (rw c.from-in-By.ensures at c.spell_whole-in-By.ensures)) in
    record { bytes = s.bytes; back = s.back; plain = s.plain; once = s.once }
