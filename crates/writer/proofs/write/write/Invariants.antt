use Rattle.std.specs.List.{flat_map, AllByRecursion}
use Rattle.writer.specs.Bytes.{colon}
use Rattle.writer.specs.Drafts.{Puts}
use Rattle.writer.proofs.write.write.Given as goal

abbrev pub invariant-loop-group : goal.invariant-loop-group
invariant-loop-group g l = record {
  puts : Puts l.initial.draft (flat_map colon (flat_map g.G.Put.fields l.yielded)) l.draft;
  fits : AllByRecursion g.G.Put.fits l.yielded;
}
