-- What an operation answers and changes, and the answer to a request.
use Rattle.std.specs.Prelude.{ℕ, ◌+◌, ◌-◌, List, [], ◌∷◌, ◌++◌, length, take, drop, replicate, Option, Some, None}
use Rattle.std.specs.FinMap as map
use Rattle.sea_plain.specs.declared.op.Op.{Op}
use Rattle.sea_plain.specs.declared.op.Op.TheVariants.{Write, Read}
use Rattle.sea_plain.specs.declared.reply.Item.{Item}
use Rattle.sea_plain.specs.declared.reply.Item.TheVariants.{Unit as Done_item, Absent, Bytes}
use Rattle.sea_plain.specs.declared.reply.Reply.{Reply}
use Rattle.sea_plain.specs.declared.reply.Reply.TheVariants.{Done}
use Rattle.sea_plain.specs.Objects.{ObjectValue, ObjectMap, object_at, with_bytes}

-- the old bytes with new ones from an offset on, and zeros between where the old ones end before it
abbrev pub written : ℕ → List ℕ → List ℕ → List ℕ
written offset bytes old =
    take offset (old ++ replicate (offset - length old) 0) ++ bytes ++ drop (offset + length bytes) old

-- an object's bytes after bytes were laid over them, which leave them as they are where there are none
abbrev pub laid : ℕ → List ℕ → List ℕ → List ℕ
laid offset [] old = old
laid offset (b ∷ bytes) old = written offset (b ∷ bytes) old

-- the objects after an operation
abbrev pub effect : Op → ObjectMap → ObjectMap
effect (Write name offset bytes) objects =
    with_bytes objects name (written offset bytes (object_at objects name).bytes)
effect (Read name offset count) objects = objects

-- what a read of an object answers
abbrev pub read_item : ℕ → ℕ → Option ObjectValue → Item
read_item offset count None = Absent
read_item offset count (Some object) = Bytes (take count (drop offset object.bytes))

-- what an operation answers
abbrev pub item : Op → ObjectMap → Item
item (Write name offset bytes) objects = Done_item
item (Read name offset count) objects = read_item offset count (map.get objects name)

-- the items of operations done in order
abbrev pub items : List Op → ObjectMap → List Item
items [] objects = []
items (op ∷ ops) objects = item op objects ∷ items ops (effect op objects)

-- the objects after operations done in order
abbrev pub after : List Op → ObjectMap → ObjectMap
after [] objects = objects
after (op ∷ ops) objects = after ops (effect op objects)

-- the reply to a request
abbrev pub answer : List Op → ObjectMap → Reply
answer ops objects = Done (items ops objects)
