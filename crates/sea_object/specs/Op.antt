-- The limits of an operation, and what it weighs.
use Rattle.std.specs.Prelude.{ℕ, ◌+◌, ◌-◌, ◌/◌, ◌≤◌, Bool, true, false}
use Rattle.std.specs.Prelude.{List, length, Option, Some, None}
use Rattle.std.specs.List.{AllByRecursion}
use Rattle.sea_object.specs.declared.op.Op.{Op}
use Rattle.sea_object.specs.declared.op.Op.TheVariants.{Touch, Write, Zero, Truncate, Remove}
use Rattle.sea_object.specs.declared.op.Op.TheVariants.{SetAttr, RmAttr, RmAttrs, OmapSetKeys}
use Rattle.sea_object.specs.declared.op.Op.TheVariants.{OmapRmKeys, OmapRmKeyRange, OmapClear}
use Rattle.sea_object.specs.declared.op.Op.TheVariants.{Read, Stat, GetAttr, GetAttrs}
use Rattle.sea_object.specs.declared.op.Op.TheVariants.{OmapGet, OmapList, List as ListNames}
use Rattle.sea_object.specs.declared.op.Kind.{Kind}
use Rattle.sea_object.specs.declared.op.Kind.TheVariants.{Makes, Puts, Takes, Asks}

-- the name of the object that an operation is on
abbrev pub name_of : Op → Option (List ℕ)
name_of (Touch name) = Some name
name_of (Write name offset bytes) = Some name
name_of (Zero name offset count) = Some name
name_of (Truncate name size) = Some name
name_of (Remove name) = Some name
name_of (SetAttr name key value) = Some name
name_of (RmAttr name key) = Some name
name_of (RmAttrs name) = Some name
name_of (OmapSetKeys name pairs) = Some name
name_of (OmapRmKeys name keys) = Some name
name_of (OmapRmKeyRange name from to bound) = Some name
name_of (OmapClear name) = Some name
name_of (Read name offset count) = Some name
name_of (Stat name) = Some name
name_of (GetAttr name key) = Some name
name_of (GetAttrs name) = Some name
name_of (OmapGet name key) = Some name
name_of (OmapList name limit after) = Some name
name_of (ListNames limit after) = None

-- what sort of operation it is
abbrev pub kind : Op → Kind
kind (Touch name) = Makes
kind (Write name offset bytes) = Makes
kind (Zero name offset count) = Makes
kind (SetAttr name key value) = Puts
kind (OmapSetKeys name pairs) = Puts
kind (Truncate name size) = Takes
kind (Remove name) = Takes
kind (RmAttr name key) = Takes
kind (RmAttrs name) = Takes
kind (OmapRmKeys name keys) = Takes
kind (OmapRmKeyRange name from to bound) = Takes
kind (OmapClear name) = Takes
kind _ = Asks

-- whether it changes anything
abbrev pub kind_changes : Kind → Bool
kind_changes Asks = false
kind_changes _ = true

abbrev pub changes : Op → Bool
changes op = kind_changes (kind op)

-- whether it makes its object where there is none
abbrev pub kind_makes : Kind → Bool
kind_makes Makes = true
kind_makes _ = false

abbrev pub makes : Op → Bool
makes op = kind_makes (kind op)

-- whether it changes an object that must be there
abbrev pub kind_needs : Kind → Bool
kind_needs Puts = true
kind_needs Takes = true
kind_needs _ = false

abbrev pub needs_object : Op → Bool
needs_object op = kind_needs (kind op)

-- whether it makes or puts something
abbrev pub kind_adds : Kind → Bool
kind_adds Makes = true
kind_adds Puts = true
kind_adds _ = false

abbrev pub adds : Op → Bool
adds op = kind_adds (kind op)

-- whether it takes something away, and puts nothing
abbrev pub kind_takes : Kind → Bool
kind_takes Takes = true
kind_takes _ = false

abbrev pub takes : Op → Bool
takes op = kind_takes (kind op)

-- a range that an object can have, of one byte or more
abbrev pub IsWritten : ℕ → ℕ → Type 0
IsWritten offset count = (1 ≤ count) × (offset + count ≤ 16777216)

-- one or more, and no more than the limit
abbrev pub IsCount : ℕ → ℕ → Type 0
IsCount count limit = (1 ≤ count) × (count ≤ limit)

-- offsets, lengths and numbers are within their limits
abbrev pub HasGoodRange : Op → Type 0
HasGoodRange (Write name offset bytes) = IsWritten offset (length bytes)
HasGoodRange (Zero name offset count) = IsWritten offset count
HasGoodRange (Truncate name size) = size ≤ 16777216
HasGoodRange (OmapSetKeys name pairs) = 1 ≤ length pairs
HasGoodRange (OmapRmKeys name keys) = 1 ≤ length keys
HasGoodRange (OmapRmKeyRange name from to bound) = IsCount bound 32
HasGoodRange (Read name offset count) = (offset ≤ 16777216) × IsCount count 65536
HasGoodRange (OmapList name limit after) = IsCount limit 64
HasGoodRange (ListNames limit after) = IsCount limit 64
HasGoodRange _ = Unit {0}

-- no value is longer than 1,024 bytes
abbrev pub HasGoodValues : Op → Type 0
HasGoodValues (SetAttr name key value) = length value ≤ 1024
HasGoodValues (OmapSetKeys name pairs) = AllByRecursion (λ pair. length pair.1 ≤ 1024) pairs
HasGoodValues _ = Unit {0}

-- how many blocks of 4,096 bytes a range of one byte or more touches
abbrev pub blocks_touched : ℕ → ℕ → ℕ
blocks_touched offset count = (offset + count - 1) / 4096 - offset / 4096 + 1

-- the blocks that an operation counts as written
abbrev pub data_blocks : Op → ℕ
data_blocks (Write name offset bytes) = blocks_touched offset (length bytes)
data_blocks (Zero name offset count) = blocks_touched offset count
data_blocks (Truncate name size) = 1
data_blocks _ = 0

-- what an operation weighs among the changes of keys
abbrev pub key_weight : Op → ℕ
key_weight (Touch name) = 1
key_weight (Write name offset bytes) = 1
key_weight (Zero name offset count) = 1
key_weight (SetAttr name key value) = 1
key_weight (RmAttr name key) = 1
key_weight (Remove name) = 8
key_weight (Truncate name size) = 8
key_weight (OmapClear name) = 8
key_weight (RmAttrs name) = 8
key_weight (OmapSetKeys name pairs) = length pairs
key_weight (OmapRmKeys name keys) = length keys
key_weight (OmapRmKeyRange name from to bound) = bound
key_weight _ = 0

-- an operation that may stand in a request
abbrev pub IsWithinLimits : Op → Type 0
IsWithinLimits op = HasGoodRange op × HasGoodValues op
