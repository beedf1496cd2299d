use Rattle.sea_base.specs.Ghosts.{IsCall}
use Rattle.std.proofs.Common.{None, ◌-◌}
use Rattle.std.specs.Option.{option_copied}
use Rattle.sea_base.specs.Space.{OnlyRead}
use Rattle.sea_tree.specs.Reads.{ReadsListed}
use Rattle.sea_tree.specs.Walk.{addresses}
use Rattle.sea_tree.proofs.Walks.{Passes}
use Rattle.sea_tree.proofs.walking.+walk_below.Given as goal

abbrev pub decreases-walk_below : goal.decreases-walk_below
decreases-walk_below g l = l.node.now.level

abbrev pub invariant-loop-index : goal.invariant-loop-index
invariant-loop-index g l = record {
  passes : Passes (l.node.level - 1) l.node.entries (option_copied l.upper) l.index (g.S.Space.seen l.fn.space) (g.S.Space.seen l.space) l.fn.walk l.walk;
  listed : ReadsListed (addresses l.walk) (g.S.Space.seen l.fn.space) (g.S.Space.seen l.space);
  reads : OnlyRead (g.S.Space.seen l.fn.space) (g.S.Space.seen l.space);
  call : IsCall g.S.Space l.fn.space l.space None;
}
