-- What is answered of an object's bytes, which are none where there is no object.
use Rattle.std.specs.Prelude.{ℕ, List, length, take, drop, Option, Some, None}
use Rattle.sea_object.specs.declared.op.Op.{Op}
use Rattle.sea_object.specs.declared.op.Op.TheVariants.{Read}
use Rattle.sea_object.specs.declared.reply.Item.{Item}
use Rattle.sea_object.specs.declared.reply.Item.TheVariants.{Absent, Bytes, Number}

-- a read asks for bytes, a stat for how many there are
abbrev pub told : Op → Option (List ℕ) → Item
told op None = Absent
told (Read name offset count) (Some bytes) = Bytes (take count (drop offset bytes))
told op (Some bytes) = Number (length bytes)
