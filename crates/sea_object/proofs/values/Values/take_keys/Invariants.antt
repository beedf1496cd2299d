use Rattle.std.proofs.Common.{◌≡◌, drop}
use Rattle.sea_object.specs.Held.{values_in}
use Rattle.sea_object.specs.Objects.{without_keys}
use Rattle.sea_object.specs.Undo.{before_changes}
use Rattle.sea_object.proofs.values.Values.take_keys.Given as goal

abbrev pub invariant-loop-key : goal.invariant-loop-key
invariant-loop-key l = record {
  done : without_keys (drop l.key-index l.keys) (values_in l.self) ≡ without_keys l.keys (values_in l.initial.self);
  before : before_changes l.log l.self ≡ before_changes l.initial.log l.initial.self;
}
