use Rattle.std.proofs.Common.{◌≡◌, ◌+◌, ◌≤◌, length, take}
use Rattle.sea_ptree.specs.Laying.{pairs_laid_over, RunFits}
use Rattle.sea_ptree.specs.Node.{IsRising}
use Rattle.sea_ptree.proofs.laying.lay_over.Given as goal

abbrev pub invariant-loop-key : goal.invariant-loop-key
invariant-loop-key l = record {
  laid : IsRising l.fn.pairs.items → l.pairs.items ≡ pairs_laid_over (take l.key-index l.run) l.fn.pairs.items;
  fits : RunFits (take l.key-index l.run);
  few : length l.pairs.items ≤ length l.fn.pairs.items + l.key-index;
}
