-- The entries of the three lists in a record's metadata.
use Rattle.std.specs.Prelude.{ℕ, List, ◌++◌, length}
use Rattle.std.specs.List.{flat_map}
use Rattle.sea_base.specs.Field.{big_endian}
use Rattle.sea_base.specs.declared.place.Laddr.{Laddr}
use Rattle.sea_record.specs.declared.record.Change.{Change}

-- of a placed extent: the address, the version, the sum
abbrev pub mark_bytes : ℕ → ℕ → ℕ → List ℕ
mark_bytes at version sum = big_endian 8 at ++ big_endian 8 version ++ big_endian 8 sum

-- of a dropped address
abbrev pub address_bytes : Laddr → List ℕ
address_bytes at = big_endian 8 at.0

-- of a change: the address, how many bytes stay, how many go, how many come, and those
abbrev pub change_bytes : Change → List ℕ
change_bytes change =
    big_endian 8 change.at.0 ++ big_endian 2 change.delta.cut ++ big_endian 2 change.delta.gone
    ++ big_endian 2 (length change.delta.put) ++ change.delta.put

-- how many there are, and one behind the other
abbrev pub counted : {A : Type 0} → (A → List ℕ) → List A → List ℕ
counted spelled items = big_endian 4 (length items) ++ flat_map spelled items
