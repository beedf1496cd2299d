use Rattle.std.proofs.Common.{◌≡◌, ◌++◌, ◌≤◌, length}
use Rattle.sea_object.proofs.Shown.{live}
use Rattle.sea_object.proofs.values.Values.keys_in.Given as goal

abbrev pub invariant-loop-key : goal.invariant-loop-key
invariant-loop-key l = record {
  all : l.keys ++ live l.key-iterator ≡ live l.initial.key-iterator;
  few : length l.keys ≤ l.bound;
}
