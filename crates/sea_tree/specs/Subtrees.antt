-- A subtree with its pairs and its nodes, both in order.
use Rattle.std.specs.Prelude.{◌≡◌, ℕ, zero, suc, List, [], ◌∷◌, ◌++◌, Option}
use Rattle.sea_base.specs.Space.{Store}
use Rattle.sea_node.specs.Entries.{Entry}
use Rattle.sea_tree.specs.Tree.{Bounds, child_bounds, IsAddress}
use Rattle.sea_tree.specs.Breaks.{HasNode}

-- below the entries of a node: for each the child with its pairs and nodes, one behind the other
abbrev pub AllBelow : (ℕ → Bounds → List Entry → List ℕ → Type 0) → List Entry → Option (List ℕ)
    → List Entry → List ℕ → Type 0
AllBelow C [] upper pairs nodes = (pairs ≡ []) × (nodes ≡ [])
AllBelow C (entry ∷ after) upper pairs nodes =
    (child : ℕ) × (p : List Entry) × (ps : List Entry) × (n : List ℕ) × (ns : List ℕ)
    × IsAddress entry.1 child × C child (child_bounds entry after upper) p n
    × AllBelow C after upper ps ns
    × (pairs ≡ p ++ ps) × (nodes ≡ n ++ ns)

-- the subtree from this address down, with its pairs and its nodes
abbrev pub Holds : Store → ℕ → ℕ → Bounds → List Entry → List ℕ → Type 0
Holds store zero at bounds pairs nodes =
    (entries : List Entry) × HasNode store 0 at bounds entries × (pairs ≡ entries)
    × (nodes ≡ at ∷ [])
Holds store (suc level) at bounds pairs nodes =
    (entries : List Entry) × (ns : List ℕ) × HasNode store (suc level) at bounds entries
    × AllBelow (Holds store level) entries bounds.upper pairs ns × (nodes ≡ at ∷ ns)

-- what stands below a node of this level with these entries
abbrev pub Below : Store → ℕ → List Entry → Option (List ℕ) → List Entry → List ℕ → Type 0
Below store zero entries upper pairs nodes = (pairs ≡ entries) × (nodes ≡ [])
Below store (suc level) entries upper pairs nodes =
    AllBelow (Holds store level) entries upper pairs nodes
