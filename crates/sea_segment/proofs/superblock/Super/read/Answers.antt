use Rattle.std.proofs.Common.{subst, sym}
use Rattle.std.proofs.lemmas.Bool.{false≢true}
use Rattle.sea_segment.specs.Superblock.{IsSegmentCount}
use Rattle.sea_segment.proofs.Supers.{any_super, same_super}
use Rattle.sea_segment.proofs.superblock.Super.read.Goals as goal
use Rattle.sea_segment.proofs.superblock.Super.read.Goals.{then-found-ne-FORMAT-via-then-found-ne-FORMAT, then-found-ne-FORMAT-via-else-found-ne-FORMAT+then-not-is_segment_count}

pub returns-then-found-ne-FORMAT-clause-none : goal.returns-then-found-ne-FORMAT-clause-none
returns-then-found-ne-FORMAT-clause-none c = λ segments spells.
    let same = same_super c.args.block.now c.in-Some.found.format 1 c.in-Some.found.segments segments c.in-Some.ensures.some (any_super c.args.block.now segments spells) in
    elim c.then-found-ne-FORMAT.branch [
      | then-found-ne-FORMAT-via-then-found-ne-FORMAT w ↦ w.if-found-ne-FORMAT.true same.0
      | then-found-ne-FORMAT-via-else-found-ne-FORMAT+then-not-is_segment_count w ↦ false≢true (w.if-not-is_segment_count.ensures.1 (subst IsSegmentCount (sym same.1) spells.count))
    ]
