use Rattle.std.proofs.Common.{◌≡◌, ◌+◌, length}
use Rattle.sea_trail.specs.Trail.{AreParts}
use Rattle.sea_trail_trial.proofs.plain.closed.closed_of.Given as goal

abbrev pub invariant-loop-seq : goal.invariant-loop-seq
invariant-loop-seq l = record {
  parts : AreParts l.image l.segments l.newest.last.tail.seq l.parts.items;
  counted : l.newest.last.tail.seq + length l.parts.items ≡ l.seq;
}
