-- What the calls on an object's data do, on every store that agrees with what was read.
use Rattle.std.specs.Prelude.{◌≡◌, ◌⊎◌, ℕ, ◌+◌, ◌-◌, ◌*◌, ◌<◌, ◌≤◌, List, [], ◌∷◌, ◌++◌, length, None, true, MatchOption}
use Rattle.std.specs.Int.{div_ceil}
use Rattle.sea_base.specs.declared.delta.Delta.{Delta}
use Rattle.sea_base.specs.Space.{Store, Seen, Agrees, laid}
use Rattle.sea_object.specs.declared.onode.Onode.{Onode}
use Rattle.sea_object.specs.Op.{blocks_touched}
use Rattle.sea_data.specs.Bytes.{block_address, bytes_of}
use Rattle.sea_data.specs.Ranges.{AtBlock, Touches, Covers, HoldsOldEnd, IsReadFor, IsChangedFor, BeginsBetween, ReadsBlocks, ChangesBlocks}
use Rattle.sea_data.specs.Steps.{Does, ClearsOldEnd, laying, clearing, part_of, part_steps, drop_steps}

-- An onode is in good order in a store: its 4,098 addresses lie from 2 to below the next one, its
-- size is within the limit, and no data block stands past its end.
pub record IsInOrder (store : Store) (base size next : ℕ) : Type 0 where
  pub low : 2 ≤ base
  pub high : base + 4098 ≤ next
  pub within : size ≤ 16777216
  pub none_past : (i : ℕ) → i < 4096 → size ≤ 4096 * i → store (block_address base i) ≡ None

-- A store that a call speaks of, with its next address: it agrees with what was read as the call
-- ends, and with the changes made before the call laid over it the onode is in good order.
pub record Meets (store : Store) (next : ℕ) (onode : Onode) (old new : Seen) : Type 0 where
  pub agrees : Agrees store new
  pub order : IsInOrder (laid old store) onode.base.0 onode.size next

-- With the changes of the call laid over it, the object has these bytes at its new size, an onode
-- of that size is in good order, and no address has another block but its own data blocks.
pub record Becomes (store : Store) (next : ℕ) (onode : Onode) (size : ℕ) (after : List ℕ)
    (old new : Seen) : Type 0 where
  pub bytes : bytes_of (laid new store) onode.base.0 size ≡ after
  pub order : IsInOrder (laid new store) onode.base.0 size next
  pub elsewhere : (at : ℕ) → (AtBlock onode.base.0 (λ i. i < 4096) at → ⊥)
      → laid new store at ≡ laid old store at

-- a data block was placed whole
pub record IsPlaced (at : ℕ) (new : Seen) : Type 0 where
  pub changed : new.changed at ≡ true
  pub whole : new.whole at ≡ true
  pub splices : new.splices at ≡ []

-- What a write of a range of an object's bytes has read and changed.
pub record WriteFootprint (onode : Onode) (from to : ℕ) (old new : Seen) : Type 0 where
  -- what was newly read is a block that is written in part, or that holds the old end
  pub reads : ReadsBlocks onode.base.0 (IsReadFor onode.size from to) old new
  -- what was changed is a block that is written, or that holds the old end
  pub changes : ChangesBlocks onode.base.0 (IsChangedFor onode.size from to) old new
  -- a block that is written whole was placed whole
  pub placed : (i : ℕ) → Covers from to i → IsPlaced (block_address onode.base.0 i) new
  -- no other block was placed whole: the one that holds the old end is amended, if it is changed
  pub whole : (at : ℕ) → AtBlock onode.base.0 (Touches from to) at ⊎ (new.whole at ≡ old.whole at)

-- the splice that zeros the bytes past an old end, or none
abbrev pub MayClear : ℕ → ℕ → ℕ → List Delta → Type 0
MayClear size to i deltas =
    (deltas ≡ []) ⊎ (HoldsOldEnd size to i × (deltas ≡ clearing (size - 4096 * i) ∷ []))

-- A block was amended by a splice, behind the one that zeroed the bytes past an old end, if there
-- is one.
pub record IsAmended (size to i at : ℕ) (delta : Delta) (old new : Seen) : Type 0 where
  pub lead : List Delta
  pub may : MayClear size to i lead
  pub whole : new.whole at ≡ old.whole at
  pub splices : new.splices at ≡ old.splices at ++ lead ++ delta ∷ []

-- How a range was written: the bytes past the old end were zeroed, then the blocks of the range
-- were written in order. So a block that is written in part is amended where there is one, and
-- placed whole where there is none.
pub record WriteForm (onode : Onode) (offset : ℕ) (bytes : List ℕ) (old new : Seen) : Type 0 where
  pub between : Seen
  pub cleared : ClearsOldEnd onode.base.0 onode.size offset (offset + length bytes) old between
  pub written : Does (part_steps onode.base.0 offset bytes (blocks_touched offset (length bytes)))
      between new
  pub part : (i : ℕ) → Touches offset (offset + length bytes) i
      → (Covers offset (offset + length bytes) i → ⊥) → (store : Store) → Agrees store new
      → MatchOption (laid old store (block_address onode.base.0 i))
      (IsPlaced (block_address onode.base.0 i) new)
      (λ block. IsAmended onode.size (offset + length bytes) i (block_address onode.base.0 i)
      (laying (offset - 4096 * i) (part_of offset bytes i)) old new)

-- What a change of an object's size to another has read and changed.
pub record CutFootprint (onode : Onode) (size : ℕ) (old new : Seen) : Type 0 where
  -- what was newly read is the block that holds the old end of an object that is enlarged
  pub reads : ReadsBlocks onode.base.0 (HoldsOldEnd onode.size size) old new
  -- what was changed is that block, or one that begins from the new end on before the old one
  pub changes : ChangesBlocks onode.base.0
      (λ i. BeginsBetween size onode.size i ⊎ HoldsOldEnd onode.size size i) old new
  -- each of these was dropped, filled or not
  pub dropped : (i : ℕ) → BeginsBetween size onode.size i
      → IsPlaced (block_address onode.base.0 i) new
      × (new.view (block_address onode.base.0 i) ≡ None)

-- How it was changed: the bytes past the old end were zeroed where the object is enlarged, then
-- each block from the new end on before the old one was dropped.
pub record CutForm (onode : Onode) (size : ℕ) (old new : Seen) : Type 0 where
  pub between : Seen
  pub cleared : ClearsOldEnd onode.base.0 onode.size size size old between
  pub dropped : Does (drop_steps onode.base.0 (div_ceil size 4096)
      (div_ceil onode.size 4096 - div_ceil size 4096)) between new
