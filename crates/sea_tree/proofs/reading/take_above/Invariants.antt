use Rattle.std.proofs.Common.{◌≡◌, ◌≤◌, ◌++◌, length, take}
use Rattle.std.specs.Option.{option_copied}
use Rattle.sea_tree.specs.Range.{entries_above}
use Rattle.sea_tree.proofs.reading.take_above.Given as goal

abbrev pub invariant-loop-key : goal.invariant-loop-key
invariant-loop-key l = record {
  found : l.found ≡ take l.limit (l.fn.found ++ entries_above (option_copied l.after) (take l.key-index l.entries));
  count : length l.found ≤ l.limit;
}
