use Rattle.std.proofs.Common.{◌≡◌, take}
use Rattle.sea_tree.specs.Mending.{moved}
use Rattle.sea_tree.proofs.edit.with_moved.Given as goal

abbrev pub invariant-loop-key : goal.invariant-loop-key
invariant-loop-key l = l.changed ≡ moved l.fn.from l.fn.to (take l.key-index l.entries)
