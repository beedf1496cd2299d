use Rattle.std.proofs.Common.{◌≡◌, List, take}
use Rattle.sea_ptree.specs.Node.{Entry}
use Rattle.sea_ptree.specs.Reading.{AreRead}
use Rattle.sea_ptree.proofs.node.read_entries.Given as goal

abbrev pub invariant-loop-index : goal.invariant-loop-index
invariant-loop-index l = (entries : List Entry) → AreRead l.block l.count entries → l.entries.items ≡ take l.index entries
