-- The objects of a store as far as their onodes tell of them: each has a range of addresses of its
-- own.
use Rattle.std.specs.Prelude.{◌≡◌, ◌≢◌, ℕ, ◌+◌, ◌*◌, ◌<◌, ◌≤◌, List, Some, None}
use Rattle.std.specs.FinMap as map
use Rattle.sea_base.specs.Space.{Store}
use Rattle.sea_object.specs.declared.onode.Onode.{Onode}
use Rattle.sea_tree.specs.Tree.{IsNodeOf}
use Rattle.sea_onode.specs.Onodes.{Onodes, HasOnodes}

-- an address is one of an object's 4,098
abbrev pub IsInRange : Onode → ℕ → Type 0
IsInRange onode at = (onode.base.0 ≤ at) × (at < onode.base.0 + 4098)

-- An onode is in order in a store: its addresses lie from 2 to below the next one to be given, and
-- its numbers are within their limits; no data block stands past its end, and no node of the onode
-- tree among its addresses.
pub record IsInOrder (store : Store) (next : ℕ) (onode : Onode) : Type 0 where
  pub low : 2 ≤ onode.base.0
  pub high : onode.base.0 + 4098 ≤ next
  pub size : onode.size ≤ 16777216
  pub attrs : onode.attrs ≤ 64
  pub keys : onode.keys ≤ 10000
  pub past : (i : ℕ) → i < 4096 → onode.size ≤ 4096 * i → store (onode.base.0 + 2 + i) ≡ None
  pub alone : (at : ℕ) → IsInRange onode at → IsNodeOf store 1 at → ⊥

-- A store holds the objects of these onodes, as far as onodes tell: the onode tree has them, and
-- each is in order; two ranges share no address; and what is filled lies from 1 to below the next
-- address.
pub record AreInOrder (store : Store) (next : ℕ) (onodes : Onodes) : Type 0 where
  pub tree : HasOnodes store onodes
  pub each : (name : List ℕ) (onode : Onode) → map.get onodes name ≡ Some onode
      → IsInOrder store next onode
  pub apart : (a b : List ℕ) (x y : Onode) (at : ℕ) → map.get onodes a ≡ Some x
      → map.get onodes b ≡ Some y → IsInRange x at → IsInRange y at → a ≡ b
  pub begun : 2 ≤ next
  pub filled : (at : ℕ) → store at ≢ None → (1 ≤ at) × (at < next)

-- An onode may stand under a name beside others: it is in order, and shares no address with one of
-- another name.
pub record Fits (store : Store) (next : ℕ) (onodes : Onodes) (name : List ℕ)
    (onode : Onode) : Type 0 where
  pub itself : IsInOrder store next onode
  pub apart : (other : List ℕ) (x : Onode) (at : ℕ) → map.get onodes other ≡ Some x
      → IsInRange x at → IsInRange onode at → other ≡ name
