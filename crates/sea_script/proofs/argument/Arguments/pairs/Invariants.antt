use Rattle.std.proofs.Common.{◌≡◌, ◌++◌, ◌%◌, length}
use Rattle.std.specs.List.{flat_map}
use Rattle.sea_script.specs.Argument.{kinds, pair_arguments}
use Rattle.sea_script.specs.Table.{alternate}
use Rattle.sea_script.proofs.argument.Arguments.pairs.Given as goal

abbrev pub invariant-loop-self : goal.invariant-loop-self
invariant-loop-self l = record {
  even : length l.self % 2 ≡ 0;
  pairs : kinds l.self ≡ alternate (length l.self);
  read : l.fn.self ≡ flat_map pair_arguments l.pairs.items ++ l.self;
}

abbrev pub decreases-loop-self : goal.decreases-loop-self
decreases-loop-self l = length l.self
