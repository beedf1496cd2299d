-- A node in its block.
use Rattle.std.specs.Prelude.{◌≡◌, ℕ, ◌≤◌, List, length, take, drop}
use Rattle.std.specs.List.{AllByRecursion}
use Rattle.sea_ptree.specs.declared.kind.Kind.{Kind}
use Rattle.sea_ptree.specs.declared.view.View.{View}
use Rattle.sea_ptree.specs.Node.{Entry, Spells}
use Rattle.sea_ptree.specs.Tree.{IsBelowNext}

-- the entries of a node in its block
pub record Views (kind : Kind) (level : ℕ) (view : View) (entries : List Entry) : Type 0 where
  pub spells : Spells kind view.block level entries
  pub count : length entries ≡ view.count

-- entries in two parts: those whose keys are not above a key, and the others
pub record Parts (key : ℕ) (entries : List Entry) (count : ℕ) : Type 0 where
  pub within : count ≤ length entries
  pub upto : AllByRecursion (λ e. e.0 ≤ key) (take count entries)
  pub next : IsBelowNext key (drop count entries)
