use Rattle.std.proofs.Common.{None, reverse}
use Rattle.sea_base.specs.Ghosts.{IsCall}
use Rattle.sea_base.specs.Space.{OnlyRead}
use Rattle.sea_tree.specs.Lookup.{IsFound}
use Rattle.sea_tree.specs.Range.{AreTurns}
use Rattle.sea_tree.specs.Reads.{ReadsPath}
use Rattle.sea_tree.proofs.cursor.go_down.Given as goal

abbrev pub invariant-down : goal.invariant-down
invariant-down g l = record {
  found : IsFound (g.S.Space.seen l.space) l.fn.root.0 l.key l.upper l.sight;
  turns : AreTurns (g.S.Space.seen l.space) l.fn.root.0 (reverse l.turns.items) l.upper;
  within : ReadsPath l.fn.root.0 l.fn.key (g.S.Space.seen l.fn.space) (g.S.Space.seen l.space);
  reads : OnlyRead (g.S.Space.seen l.fn.space) (g.S.Space.seen l.space);
  call : IsCall g.S.Space l.fn.space l.space None;
}

abbrev pub decreases-down : goal.decreases-down
decreases-down g l = l.sight.lookup.level
