-- The faults of calls on a tree.
use Rattle.std.specs.Prelude.{ℕ}
use Rattle.sea_tree.specs.declared.fault.TreeFault.{TreeFault}
use Rattle.sea_tree.specs.declared.fault.TreeFault.TheVariants.{Space, Broken}

-- this holds of the block that a fault names, where it names one
abbrev pub Blames : (ℕ → Type 0) → TreeFault → Type 0
Blames P (Space fault) = Unit {0}
Blames P (Broken at) = P at.0
