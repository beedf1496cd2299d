use Rattle.std.proofs.Common.{◌≡◌, ◌++◌, length, take}
use Rattle.sea_ptree.specs.Node.{front_bytes, entries_bytes}
use Rattle.sea_ptree.proofs.node.print_node.Given as goal

abbrev pub invariant-loop-key : goal.invariant-loop-key
invariant-loop-key l = l.bytes.items ≡ front_bytes l.fn.kind l.level (length l.entries) ++ entries_bytes (take l.key-index l.entries)
