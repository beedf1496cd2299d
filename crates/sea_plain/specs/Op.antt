-- The limits of an operation, and what it weighs.
use Rattle.std.specs.Prelude.{ℕ, ◌+◌, ◌-◌, ◌/◌, ◌≤◌, List, length}
use Rattle.sea_base.specs.Name.{IsName}
use Rattle.sea_plain.specs.declared.op.Op.{Op}
use Rattle.sea_plain.specs.declared.op.Op.TheVariants.{Write, Read}

-- the name of the object that an operation is on
abbrev pub name_of : Op → List ℕ
name_of (Write name offset bytes) = name
name_of (Read name offset count) = name

-- Writes end at 16,777,216 at most. A read begins there at most, and asks for 1 to 65,536 bytes.
abbrev pub IsWithinLimits : Op → Type 0
IsWithinLimits (Write name offset bytes) =
    IsName name × (1 ≤ length bytes) × (offset + length bytes ≤ 16777216)
IsWithinLimits (Read name offset count) =
    IsName name × (offset ≤ 16777216) × (1 ≤ count) × (count ≤ 65536)

-- how many blocks of 4,096 bytes a range of one byte or more touches
abbrev pub blocks_touched : ℕ → ℕ → ℕ
blocks_touched offset count = (offset + count - 1) / 4096 - offset / 4096 + 1

-- the blocks of its object that an operation writes
abbrev pub data_blocks : Op → ℕ
data_blocks (Write name offset bytes) = blocks_touched offset (length bytes)
data_blocks (Read name offset count) = 0

-- what an operation weighs among the changes of keys
abbrev pub key_weight : Op → ℕ
key_weight (Write name offset bytes) = 1
key_weight (Read name offset count) = 0
