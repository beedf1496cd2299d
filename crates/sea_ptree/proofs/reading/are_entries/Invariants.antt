use Rattle.std.proofs.Common.{List}
use Rattle.sea_ptree.specs.Node.{Entry}
use Rattle.sea_ptree.specs.Reading.{AreRead}
use Rattle.sea_ptree.proofs.Checks.{SoFar}
use Rattle.sea_ptree.proofs.reading.are_entries.Given as goal

abbrev pub invariant-loop-index : goal.invariant-loop-index
invariant-loop-index l = record {
  read : (entries : List Entry) × AreRead l.block l.index entries;
  told : (entries : List Entry) → AreRead l.block l.count entries → SoFar l.kind l.level entries l.index l.last;
}
