use Rattle.std.proofs.Common.{◌≡◌, ◌≤◌, length, IsTrue}
use Rattle.sea_ptree.specs.Blocks.{Keeps}
use Rattle.sea_ptree.proofs.Visits.{ReadTo}
use Rattle.sea_ptree.proofs.Walks.{WalkedTo}
use Rattle.sea_ptree.proofs.walking.+walk_below.Given as goal

abbrev pub decreases-walk_below : goal.decreases-walk_below
decreases-walk_below g l = l.level

abbrev pub invariant-loop-index : goal.invariant-loop-index
invariant-loop-index g l = record {
  few : length l.run ≤ l.limit;
  walked : IsTrue (g.B.Blocks.held l.fn.blocks).tells → WalkedTo l.kind (g.B.Blocks.held l.fn.blocks).image l.fn.link l.from l.limit l.fn.run l.level l.index l.run;
  reads : IsTrue (g.B.Blocks.held l.fn.blocks).tells → ReadTo l.kind (g.B.Blocks.held l.fn.blocks).image l.fn.link l.from l.limit l.level l.start l.index l.fn.run l.run;
  kept : Keeps (g.B.Blocks.held l.fn.blocks) (g.B.Blocks.held l.blocks);
  counted : (g.B.Blocks.held l.blocks).faults ≡ (g.B.Blocks.held l.fn.blocks).faults;
}
