use Rattle.std.proofs.Common.{None, ◌-◌, List, ℕ, length}
use Rattle.std.specs.Option.{option_copied}
use Rattle.sea_base.specs.Ghosts.{IsCall}
use Rattle.sea_base.specs.Space.{OnlyRead}
use Rattle.sea_tree.specs.Path.{LeafPath, IsLeafPath}
use Rattle.sea_tree.specs.Range.{StandsAt}
use Rattle.sea_tree.proofs.RangeSteps.{HasTaken}
use Rattle.sea_tree.proofs.reading.range.Given as goal

abbrev pub invariant-leaves : goal.invariant-leaves
invariant-leaves g l = record {
  path : (path : LeafPath) × (key : List ℕ) × IsLeafPath (g.S.Space.seen l.space) l.fn.root.0 key path × StandsAt (g.S.Space.seen l.space) l.fn.root.0 path l.cursor
      × HasTaken l.fn.root.0 (option_copied l.after) l.limit l.found (g.S.Space.seen l.fn.space) (g.S.Space.seen l.space) path;
  reads : OnlyRead (g.S.Space.seen l.fn.space) (g.S.Space.seen l.space);
  call : IsCall g.S.Space l.fn.space l.space None;
}

abbrev pub decreases-leaves : goal.decreases-leaves
decreases-leaves g l = l.limit - length l.found
