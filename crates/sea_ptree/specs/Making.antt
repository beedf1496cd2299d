-- Nodes that are written anew, one by one.
use Rattle.std.specs.Prelude.{◌≡◌, ℕ, ◌+◌, ◌<◌, ◌^◌, List, [], ◌∷◌, ◌++◌, length}
use Rattle.sea_base.specs.declared.place.Paddr.{Paddr}
use Rattle.sea_base.specs.declared.place.PRoot.{PRoot}
use Rattle.sea_ptree.specs.declared.kind.Kind.{Kind}
use Rattle.sea_ptree.specs.declared.making.Making.{Making}
use Rattle.sea_ptree.specs.declared.making.Fresh.{Fresh}
use Rattle.sea_ptree.specs.Blocks.{HasSum}
use Rattle.sea_ptree.specs.Node.{Entry, node_bytes}
use Rattle.sea_ptree.specs.Tree.{least_key}

-- nothing made so far
pub record Starts (kind : Kind) (place : ℕ) (making : Making) : Type 0 where
  pub kind_is : making.kind ≡ kind
  pub place_is : making.place ≡ place
  pub nodes : making.nodes.items ≡ []
  pub dead : making.dead.items ≡ []

-- a node goes
pub record Took (old new : Making) (at : Paddr) : Type 0 where
  pub kind : new.kind ≡ old.kind
  pub place : new.place ≡ old.place
  pub nodes : new.nodes.items ≡ old.nodes.items
  pub dead : new.dead.items ≡ old.dead.items ++ at ∷ []

-- A fresh node stands behind the others, and an entry leads to it.
pub record Wrote (old new : Making) (level : ℕ) (entries : List Entry) (entry : Entry)
    : Type 0 where
  pub kind : new.kind ≡ old.kind
  pub place : new.place ≡ old.place
  pub nodes : new.nodes.items ≡ old.nodes.items ++ node_bytes old.kind level entries ∷ []
  pub dead : new.dead.items ≡ old.dead.items
  pub key : entry.0 ≡ least_key entries
  pub at : entry.1.at.0 ≡ old.place + length old.nodes.items
  pub version : entry.1.version.0 ≡ 0
  pub sum : HasSum (node_bytes old.kind level entries) entry.1.sum.0
  pub at_fits : entry.1.at.0 < 2 ^ 32

-- all that was made, under a root
pub record IsMade (making : Making) (root : PRoot) (fresh : Fresh) : Type 0 where
  pub root_is : fresh.root ≡ root
  pub nodes : fresh.nodes ≡ making.nodes.items
  pub dead : fresh.dead ≡ making.dead.items

-- what was made stays, and more stands behind it
pub record Onward (old new : Making) : Type 0 where
  pub kind : new.kind ≡ old.kind
  pub place : new.place ≡ old.place
  pub more : List (List ℕ)
  pub nodes : new.nodes.items ≡ old.nodes.items ++ more
