use Rattle.std.proofs.Common.{◌≡◌, ◌++◌, ◌≤◌, length}
use Rattle.sea_object.proofs.Shown.{live}
use Rattle.sea_object.proofs.slots.Slots.names.Given as goal

abbrev pub invariant-loop-name : goal.invariant-loop-name
invariant-loop-name l = record {
  all : l.names ++ live l.name-iterator ≡ live l.initial.name-iterator;
  few : length l.names ≤ l.limit;
}
