use Rattle.std.proofs.Common.{◌≡◌, ◌-◌, ◌^◌, take}
use Rattle.sea_node.specs.Entries.{size}
use Rattle.sea_tree.proofs.Cuts.{Best}
use Rattle.sea_tree.proofs.cut.cut_of.Given as goal

abbrev pub invariant-loop-i : goal.invariant-loop-i
invariant-loop-i l = record {
  left : l.left ≡ size (take (l.i - 1) l.entries);
  best : Best l.entries l.i l.least l.cut;
  unset : l.i ≡ 1 → l.least ≡ 2 ^ 64 - 1;
}
