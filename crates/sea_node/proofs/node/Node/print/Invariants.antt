use Rattle.std.proofs.Common.{◌≡◌, ◌++◌, take}
use Rattle.sea_node.specs.Entries.{entries_bytes}
use Rattle.sea_node.specs.Reading.{front_bytes}
use Rattle.sea_node.proofs.node.Node.print.Given as goal

abbrev pub invariant-loop-key : goal.invariant-loop-key
invariant-loop-key l = l.bytes.items ≡ front_bytes l.self.level ++ entries_bytes (take l.key-index l.self.entries)
