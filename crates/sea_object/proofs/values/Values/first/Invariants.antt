use Rattle.std.proofs.Common.{◌≡◌, ◌++◌, ◌≤◌, length}
use Rattle.sea_object.proofs.Listing.{live_values}
use Rattle.sea_object.proofs.values.Values.first.Given as goal

abbrev pub invariant-loop-key : goal.invariant-loop-key
invariant-loop-key l = record {
  all : l.pairs ++ live_values l.key-iterator ≡ live_values l.initial.key-iterator;
  few : length l.pairs ≤ l.limit;
}
