use Rattle.std.proofs.Common.{◌-◌, ◌≤◌, ℕ, List}
use Rattle.sea_ptree.specs.declared.kind.Kind.{Kind}
use Rattle.sea_ptree.specs.Node.{Entry}
use Rattle.sea_ptree.specs.View.{Views}
use Rattle.sea_ptree.proofs.Searches.{Narrows}
use Rattle.sea_ptree.proofs.view.View.count_upto.Given as goal

abbrev pub invariant-loop-low : goal.invariant-loop-low
invariant-loop-low l = record {
  order : l.low ≤ l.high;
  within : l.high ≤ 145;
  told : (kind : Kind) (level : ℕ) (entries : List Entry) → Views kind level l.self entries → Narrows l.key entries l.low l.high;
}

abbrev pub decreases-loop-low : goal.decreases-loop-low
decreases-loop-low l = l.high - l.low
