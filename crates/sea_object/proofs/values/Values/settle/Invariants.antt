use Rattle.std.proofs.Common.{◌≡◌}
use Rattle.sea_object.specs.Held.{values_in}
use Rattle.sea_object.proofs.values.Values.settle.Given as goal

abbrev pub invariant-loop-kept : goal.invariant-loop-kept
invariant-loop-kept l = values_in l.self ≡ values_in l.initial.self
