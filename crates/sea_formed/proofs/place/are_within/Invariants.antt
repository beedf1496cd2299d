use Rattle.std.proofs.Common.{ℕ, ◌<◌, [], get_or}
use Rattle.std.specs.Option.{option_copied}
use Rattle.sea_tree.specs.Tree.{IsWithin}
use Rattle.sea_formed.proofs.place.are_within.Given as goal

abbrev pub invariant-loop-entry : goal.invariant-loop-entry
invariant-loop-entry l = (k : ℕ) → k < l.entry-index → IsWithin (get_or l.entries k ([], [])).0 (option_copied l.upper)
