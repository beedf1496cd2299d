-- Walking through a whole tree, parents first.
use Rattle.std.specs.Prelude.{◌≡◌, ℕ, ◌+◌, ◌-◌, ◌^◌, List, ◌++◌, length, map, min, Option}
use Rattle.sea_base.specs.Space.{Store, Seen, Agrees, laid}
use Rattle.sea_node.specs.Entries.{Entry}
use Rattle.sea_tree.specs.declared.fault.TreeFault.{TreeFault}
use Rattle.sea_tree.specs.Faults.{Blames}
use Rattle.sea_tree.specs.declared.walking.Walk.{Walk}
use Rattle.sea_tree.specs.Breaks.{BreaksUnder}
use Rattle.sea_tree.specs.Subtrees.{Below}

-- the addresses met
abbrev pub addresses : Walk → List ℕ
addresses walk = map (λ at. at.0) walk.nodes

-- What a walk below a node has met: what stands there on every store that agrees, added to what was
-- met before.
pub record Adds (level : ℕ) (entries : List Entry) (upper : Option (List ℕ)) (old new : Seen)
    (before after : Walk) : Type 0 where
  pub pairs : List Entry
  pub nodes : List ℕ
  pub below : (store : Store) → Agrees store new
      → Below (laid old store) level entries upper pairs nodes
  pub counted : after.pairs ≡ min (before.pairs + length pairs) (2 ^ 64 - 1)
  pub listed : addresses after ≡ addresses before ++ nodes

-- why it ended
abbrev pub IsUnderFault : ℕ → List Entry → Option (List ℕ) → Seen → Seen → TreeFault → Type 0
IsUnderFault level entries upper old new =
    Blames
    (λ at. (store : Store) → Agrees store new
    → BreaksUnder (laid old store) level entries upper at)
