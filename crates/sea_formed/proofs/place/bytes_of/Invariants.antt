use Rattle.std.proofs.Common.{◌≡◌, take}
use Rattle.sea_node.specs.Entries.{size}
use Rattle.sea_formed.proofs.place.bytes_of.Given as goal

abbrev pub invariant-loop-entry : goal.invariant-loop-entry
invariant-loop-entry l = l.total ≡ size (take l.entry-index l.entries)
