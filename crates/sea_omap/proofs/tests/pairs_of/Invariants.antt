use Rattle.std.proofs.Common.{◌≤◌, length}
use Rattle.std.specs.List.{All}
use Rattle.sea_omap.proofs.tests.pairs_of.Given as goal

abbrev pub invariant-loop-number : goal.invariant-loop-number
invariant-loop-number l = record {
  few : length l.pairs ≤ l.number-index;
  short : All (λ pair. length pair.1 ≤ 1024) l.pairs;
}
