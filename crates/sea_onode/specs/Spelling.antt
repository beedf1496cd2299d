-- The bytes of an onode, as they stand under its object's name.
use Rattle.std.specs.Prelude.{◌≡◌, ℕ, ◌<◌, ◌^◌, ◌++◌, List, Option, Some, None}
use Rattle.sea_base.specs.Field.{big_endian}
use Rattle.sea_object.specs.declared.onode.Onode.{Onode}

-- the base in 8 bytes; the size, the number of attributes and the number of keys in 4 bytes each
unfoldable pub onode_bytes : Onode → List ℕ
onode_bytes onode =
    big_endian 8 onode.base.0 ++ big_endian 4 onode.size ++ big_endian 4 onode.attrs
    ++ big_endian 4 onode.keys

-- bytes spell an onode, whose numbers fit their fields
pub record Spells (bytes : List ℕ) (onode : Onode) : Type 0 where
  pub base : onode.base.0 < 2 ^ 64
  pub size : onode.size < 2 ^ 32
  pub attrs : onode.attrs < 2 ^ 32
  pub keys : onode.keys < 2 ^ 32
  pub spelled : bytes ≡ onode_bytes onode

-- they spell none
abbrev pub SpellNone : List ℕ → Type 0
SpellNone bytes = (onode : Onode) → Spells bytes onode → ⊥

-- what stands under a name, if anything, spells the onode there
abbrev pub IsValueOf : Option (List ℕ) → Option Onode → Type 0
IsValueOf None None = Unit {0}
IsValueOf (Some bytes) (Some onode) = Spells bytes onode
IsValueOf _ _ = ⊥
