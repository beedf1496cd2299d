-- Nodes of logical trees, and how a block spells one.
use Rattle.std.specs.Prelude.{◌≡◌, ℕ, ◌-◌, ◌≤◌, List, [], ◌∷◌, ◌++◌, length, replicate, codes}
use Rattle.std.specs.List.{All}
use Rattle.sea_base.specs.Name.{IsName}
use Rattle.sea_node.specs.Entries.{Entry, IsRising, size, entries_bytes}
use Rattle.sea_node.specs.declared.node.TheConstants.{ROOM_BYTES}
use Rattle.sea_node.specs.declared.reading.TheConstants.{VALUE_BYTES}

-- What may be a node: entries in the order of their keys, that fit into its block; above the leaves
-- there are two at least, and each value is the address of a child.
pub record IsNode (level : ℕ) (entries : List Entry) : Type 0 where
  pub level_fits : level ≤ 7
  pub some : 1 ≤ length entries
  pub children : 1 ≤ level → (2 ≤ length entries) × All (λ e. length e.1 ≡ 8) entries
  pub keys : All (λ e. IsName e.0) entries
  pub values : All (λ e. length e.1 ≤ VALUE_BYTES) entries
  pub rising : IsRising entries
  pub fits : size entries ≤ ROOM_BYTES

-- the word, the level, zeros up to byte 32, the entries, and zeros
unfoldable pub node_bytes : ℕ → List Entry → List ℕ
node_bytes level entries =
    codes "SNOD" ++ level ∷ [] ++ replicate 27 0 ++ entries_bytes entries ++ replicate
    (ROOM_BYTES - size entries) 0

-- the bytes of a block spell this node
pub record Spells (bytes : List ℕ) (level : ℕ) (entries : List Entry) : Type 0 where
  pub node : IsNode level entries
  pub spelled : bytes ≡ node_bytes level entries
