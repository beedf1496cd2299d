use Rattle.std.proofs.Common.{◌-◌, ◌≡◌, ◌≤◌, ◌++◌, drop}
use Rattle.std.specs.List.{AllByRecursion}
use Rattle.sea_node.specs.Entries.{entries_bytes}
use Rattle.sea_node.specs.Reading.{IsEntry}
use Rattle.sea_node.proofs.reading.read_entries.Given as goal

abbrev pub invariant-loop-at : goal.invariant-loop-at
invariant-loop-at l = record {
  all : AllByRecursion IsEntry l.entries;
  read : drop 32 l.block ≡ entries_bytes l.entries ++ drop l.at l.block;
  within : l.at ≤ 4096;
}

abbrev pub decreases-loop-at : goal.decreases-loop-at
decreases-loop-at l = 4096 - l.at
