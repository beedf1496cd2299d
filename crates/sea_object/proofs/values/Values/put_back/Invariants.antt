use Rattle.std.proofs.Common.{◌≡◌}
use Rattle.sea_object.specs.Undo.{before_changes}
use Rattle.sea_object.proofs.values.Values.put_back.Given as goal

abbrev pub invariant-loop-kept : goal.invariant-loop-kept
invariant-loop-kept l = before_changes l.log.items l.self ≡ before_changes l.initial.log.items l.initial.self

abbrev pub decreases-loop-kept : goal.decreases-loop-kept
decreases-loop-kept l = goal.left-loop-kept l
