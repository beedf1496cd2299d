-- The bytes of an object, which its data blocks hold.
use Rattle.std.specs.Prelude.{ℕ, ◌+◌, ◌/◌, ◌%◌, ◌^◌, List, map, slice_index, Option, Some, None}
use Rattle.std.specs.List.{range_with_len}
use Rattle.sea_base.specs.Space.{Store}

-- The address of a data block, by its number and the first address of its object. Behind the last
-- address comes 0.
unfoldable pub block_address : ℕ → ℕ → ℕ
block_address base i = (base + 2 + i) % 2 ^ 64

-- a byte of a block: where nothing stands, zero
abbrev pub block_byte : Option (List ℕ) → ℕ → ℕ
block_byte None j = 0
block_byte (Some block) j = slice_index block j

-- so many bytes of a block, from one on
abbrev pub block_part : Option (List ℕ) → ℕ → ℕ → List ℕ
block_part block from count = map (block_byte block) (range_with_len from count)

-- a byte of an object's data blocks, one behind the other
unfoldable pub byte_at : Store → ℕ → ℕ → ℕ
byte_at store base k = block_byte (store (block_address base (k / 4096))) (k % 4096)

-- so many of them, from one on
unfoldable pub bytes_from : Store → ℕ → ℕ → ℕ → List ℕ
bytes_from store base from count = map (byte_at store base) (range_with_len from count)

-- the bytes of an object of a size
abbrev pub bytes_of : Store → ℕ → ℕ → List ℕ
bytes_of store base size = bytes_from store base 0 size
