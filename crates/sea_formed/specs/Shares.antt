-- How addresses are shared out, as lists tell it.
use Rattle.std.specs.Prelude.{◌≡◌, ◌⊎◌, ℕ, ◌+◌, ◌-◌, ◌*◌, ◌<◌, ◌≤◌, List, [], ◌∷◌, ◌++◌, map}
use Rattle.std.specs.List.{All, Contains, flat_map}
use Rattle.sea_object.specs.declared.onode.Onode.{Onode}
use Rattle.sea_onode.specs.Order.{IsInRange}
use Rattle.sea_ops.specs.WellFormed.{IsDataOf}
use Rattle.sea_formed.specs.declared.object.Held.{Held}

-- two numbers are so far from each other
abbrev pub IsFar : ℕ → ℕ → ℕ → Type 0
IsFar by a b = (a + by ≤ b) ⊎ (b + by ≤ a)

-- each two are
abbrev pub AreFar : ℕ → List ℕ → Type 0
AreFar by [] = Unit {0}
AreFar by (number ∷ numbers) = All (IsFar by number) numbers × AreFar by numbers

-- an address is among those of an object only if it is this root
abbrev pub IsAlone : List Held → ℕ → ℕ → Type 0
IsAlone held root at = All (λ one. IsInRange one.onode at → at ≡ root) held

abbrev pub AreAlone : List Held → ℕ → List ℕ → Type 0
AreAlone held root nodes = All (IsAlone held root) nodes

-- the nodes of an object's two trees
abbrev pub nodes_of : Held → List ℕ
nodes_of one = one.attributes.nodes.items ++ one.omap.nodes.items

-- an address is a node, or holds bytes of an object
abbrev pub HasUse : List ℕ → List Held → ℕ → Type 0
HasUse nodes held at =
    Contains nodes at ⊎ ((one : Held) × Contains held one × IsDataOf one.onode at)

-- an address is that of a data block of an object
abbrev pub IsDataAddress : Onode → ℕ → Type 0
IsDataAddress onode at = (onode.base.0 + 2 ≤ at) × (at < onode.base.0 + 4098)

-- an address is no data block behind an object's end
abbrev pub EndsBefore : Onode → ℕ → Type 0
EndsBefore onode at = IsDataAddress onode at → 4096 * (at - (onode.base.0 + 2)) < onode.size

-- What is told of the addresses of a store: these are filled, these are the nodes of the onode
-- tree, and these objects were read.
pub record AreShared (filled : List ℕ) (next : ℕ) (own : List ℕ)
    (held : List Held) : Type 0 where
  pub begun : 2 ≤ next
  pub ranges : AreFar 4098 (map (λ one. one.onode.base.0) held)
  pub apart : AreFar 1 (own ++ flat_map nodes_of held)
  pub alone : AreAlone held 1 own
  pub attributes : All (λ one. AreAlone held one.onode.base.0 one.attributes.nodes.items) held
  pub omaps : All (λ one. AreAlone held (one.onode.base.0 + 1) one.omap.nodes.items) held
  pub used : All (HasUse (own ++ flat_map nodes_of held) held) filled
  pub within : All (λ at. (1 ≤ at) × (at < next)) filled
  pub ends : All (λ at. All (λ one. EndsBefore one.onode at) held) filled
