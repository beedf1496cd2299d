use Rattle.std.proofs.Common.{◌≡◌}
use Rattle.std.specs.List.{All}
use Rattle.sea_sets.proofs.notes.Notes.first_moved.Given as goal

abbrev pub invariant-loop-at : goal.invariant-loop-at
invariant-loop-at l = All (λ entry. entry.1.now.current ≡ entry.1.now.seen) l.yielded
