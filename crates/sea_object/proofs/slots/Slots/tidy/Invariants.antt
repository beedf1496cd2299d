use Rattle.std.proofs.Common.{◌≡◌}
use Rattle.sea_object.specs.Held.{shown_objects}
use Rattle.sea_object.proofs.slots.Slots.tidy.Given as goal

abbrev pub invariant-loop-op : goal.invariant-loop-op
invariant-loop-op l = shown_objects l.self ≡ shown_objects l.initial.self
