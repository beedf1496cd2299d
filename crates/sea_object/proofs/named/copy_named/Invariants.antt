use Rattle.std.proofs.Common.{◌≡◌}
use Rattle.std.specs.FinMap.{empty, from_entries}
use Rattle.sea_object.specs.Objects.{with_pairs}
use Rattle.sea_object.proofs.named.copy_named.Given as goal

-- with the entries that are left put to it, the copy has all
abbrev pub invariant-loop-name : goal.invariant-loop-name
invariant-loop-name g l =
    with_pairs l.name-iterator (from_entries l.made.entries) ≡ with_pairs l.initial.name-iterator empty
