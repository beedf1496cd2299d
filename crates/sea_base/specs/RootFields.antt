-- The fields that the header of a segment and that of a record share: the tail, and the roots.
use Rattle.std.specs.Prelude.{◌≡◌, ℕ, ◌^◌, ◌<◌, ◌≤◌, List, ◌++◌, replicate}
use Rattle.sea_base.specs.Field.{big_endian}
use Rattle.sea_base.specs.declared.place.PRoot.{PRoot}
use Rattle.sea_base.specs.declared.place.Root.{Root}
use Rattle.sea_base.specs.declared.place.Tail.{Tail}

-- The root of a tree of physical nodes. The empty tree has height 0, block 0 and sum 0.
pub record IsPRoot (root : PRoot) : Type 0 where
  pub block : root.at.0 < 2 ^ 32
  pub height : root.height ≤ 8
  pub sum : root.sum.0 < 2 ^ 64
  pub empty : root.height ≡ 0 → (root.at.0 ≡ 0) × (root.sum.0 ≡ 0)

-- the two trees, and the next address
pub record IsRoot (root : Root) : Type 0 where
  pub lba : IsPRoot root.lba
  pub owners : IsPRoot root.owners
  pub next : (2 ≤ root.next.0) × (root.next.0 < 2 ^ 63)

-- the sequence number of a segment, and a place
pub record IsTail (tail : Tail) : Type 0 where
  pub seq : (1 ≤ tail.seq) × (tail.seq < 2 ^ 63)
  pub place : tail.place.0 < 2 ^ 24

-- the root's block, the height, the sum
unfoldable pub proot_bytes : PRoot → List ℕ
proot_bytes root = big_endian 4 root.at.0 ++ big_endian 4 root.height ++ big_endian 8 root.sum.0

-- The tail's sequence number and place, four zeros, the root of addresses, the root of owners, the next address.
unfoldable pub root_bytes : Tail → Root → List ℕ
root_bytes tail root =
    big_endian 8 tail.seq ++ big_endian 4 tail.place.0 ++ replicate 4 0 ++ proot_bytes root.lba ++ proot_bytes root.owners ++ big_endian 8 root.next.0

-- the bytes spell this tail and these roots
pub record IsRootFields (bytes : List ℕ) (tail : Tail) (root : Root) : Type 0 where
  pub is_tail : IsTail tail
  pub is_root : IsRoot root
  pub spelled : bytes ≡ root_bytes tail root

-- and none
abbrev pub HasNoRootFields : List ℕ → Type 0
HasNoRootFields bytes = (tail : Tail) (root : Root) → IsRootFields bytes tail root → ⊥
