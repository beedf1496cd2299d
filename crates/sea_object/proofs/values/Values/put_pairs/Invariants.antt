use Rattle.std.proofs.Common.{◌≡◌, drop}
use Rattle.sea_object.specs.Held.{values_in}
use Rattle.sea_object.specs.Objects.{with_pairs}
use Rattle.sea_object.specs.Undo.{before_changes}
use Rattle.sea_object.proofs.values.Values.put_pairs.Given as goal

abbrev pub invariant-loop-key : goal.invariant-loop-key
invariant-loop-key l = record {
  done : with_pairs (drop l.key-index l.pairs) (values_in l.self) ≡ with_pairs l.pairs (values_in l.initial.self);
  before : before_changes l.log l.self ≡ before_changes l.initial.log l.initial.self;
}
