use Rattle.sea_base.specs.Ghosts.{IsCall}
use Rattle.std.proofs.Common.{None}
use Rattle.sea_base.specs.Space.{IsKnown, OnlyRead}
use Rattle.sea_tree.specs.Place.{meant}
use Rattle.sea_tree.specs.Reads.{ReadsPath}
use Rattle.sea_tree.specs.Path.{ComesDown}
use Rattle.sea_tree.proofs.path.path_to.Given as goal

abbrev pub invariant-down : goal.invariant-down
invariant-down g l = record {
  down : ComesDown (g.S.Space.seen l.space) l.fn.root.0 l.key l.steps.items l.node.level l.at.0 (meant l.bounds) l.node.entries;
  root : IsKnown (g.S.Space.seen l.space) l.fn.root.0;
  within : ReadsPath l.fn.root.0 l.fn.key (g.S.Space.seen l.fn.space) (g.S.Space.seen l.space);
  reads : OnlyRead (g.S.Space.seen l.fn.space) (g.S.Space.seen l.space);
  call : IsCall g.S.Space l.fn.space l.space None;
}

abbrev pub decreases-down : goal.decreases-down
decreases-down g l = l.node.level
