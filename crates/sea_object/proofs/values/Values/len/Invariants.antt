use Rattle.std.proofs.Common.{◌≡◌, ◌+◌, ◌≤◌, length}
use Rattle.sea_object.proofs.Shown.{live}
use Rattle.sea_object.proofs.values.Values.len.Given as goal

abbrev pub invariant-loop-slot : goal.invariant-loop-slot
invariant-loop-slot l = record {
  counted : l.count + length (live l.slot-iterator) ≡ length (live l.initial.slot-iterator) + length l.slot-iterator;
  few : l.count ≤ l.initial.count;
}
