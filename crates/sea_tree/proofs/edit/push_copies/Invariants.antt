use Rattle.std.proofs.Common.{◌≡◌, ◌++◌, take}
use Rattle.sea_tree.proofs.edit.push_copies.Given as goal

abbrev pub invariant-loop-key : goal.invariant-loop-key
invariant-loop-key l = l.pairs ≡ l.fn.pairs ++ take l.key-index l.entries
