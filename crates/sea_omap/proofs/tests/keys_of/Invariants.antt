use Rattle.std.proofs.Common.{◌≤◌, length}
use Rattle.sea_omap.proofs.tests.keys_of.Given as goal

abbrev pub invariant-loop-number : goal.invariant-loop-number
invariant-loop-number l = length l.keys ≤ l.number-index
