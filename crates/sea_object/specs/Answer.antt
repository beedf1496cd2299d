-- What an operation answers and changes, when it is refused, and the answer to a request.
use Rattle.std.specs.Prelude.{ℕ, ◌+◌, ◌-◌, Bool, cond, nat_lt, Option, Some, None}
use Rattle.std.specs.Prelude.{List, [], ◌∷◌, ◌++◌, length, take, drop, replicate}
use Rattle.std.specs.FinMap as map
use Rattle.sea_object.specs.declared.op.Op.{Op}
use Rattle.sea_object.specs.declared.op.Op.TheVariants.{Touch, Write, Zero, Truncate, Remove}
use Rattle.sea_object.specs.declared.op.Op.TheVariants.{SetAttr, RmAttr, RmAttrs, OmapSetKeys}
use Rattle.sea_object.specs.declared.op.Op.TheVariants.{OmapRmKeys, OmapRmKeyRange, OmapClear}
use Rattle.sea_object.specs.declared.op.Op.TheVariants.{Read, Stat, GetAttr, GetAttrs}
use Rattle.sea_object.specs.declared.op.Op.TheVariants.{OmapGet, OmapList, List as ListNames}
use Rattle.sea_object.specs.declared.reply.Item.{Item}
use Rattle.sea_object.specs.declared.reply.Item.TheVariants.{Unit as Nothing, Absent, Bytes}
use Rattle.sea_object.specs.declared.reply.Item.TheVariants.{Number, Names, Pairs}
use Rattle.sea_object.specs.declared.reply.Why.{Why}
use Rattle.sea_object.specs.declared.reply.Why.TheVariants.{NoObject, OmapFull, AttrFull}
use Rattle.sea_object.specs.declared.reply.Reply.{Reply}
use Rattle.sea_object.specs.declared.reply.Reply.TheVariants.{Done, Refused}
use Rattle.sea_object.specs.Objects.{Values, ObjectValue, ObjectMap, empty_object, with_object}
use Rattle.sea_object.specs.Objects.{with_pairs, without_keys}
use Rattle.sea_object.specs.Objects.{first_pairs, first_names, keys_between}
use Rattle.sea_object.specs.Op.{name_of, changes, makes, needs_object}

-- the old bytes with new ones from an offset on, and zeros between where the old ones end before it
abbrev pub written : ℕ → List ℕ → List ℕ → List ℕ
written offset bytes old =
    take offset (old ++ replicate (offset - length old) 0)
    ++ bytes
    ++ drop (offset + length bytes) old

-- the bytes cut to a size, or filled with zeros to it
abbrev pub resized : ℕ → List ℕ → List ℕ
resized size old = take size old ++ replicate (size - length old) 0

-- an object with other bytes, other attributes or another omap
abbrev pub with_bytes : List ℕ → ObjectValue → ObjectValue
with_bytes bytes object = record object { bytes = bytes }

abbrev pub with_attributes : Values → ObjectValue → ObjectValue
with_attributes values object = record object { attributes = values }

abbrev pub with_omap : Values → ObjectValue → ObjectValue
with_omap values object = record object { omap = values }

-- an object after an operation that changes it
abbrev pub changed : Op → ObjectValue → ObjectValue
changed (Write name offset bytes) o = with_bytes (written offset bytes o.bytes) o
changed (Zero name offset count) o = with_bytes (written offset (replicate count 0) o.bytes) o
changed (Truncate name size) o = with_bytes (resized size o.bytes) o
changed (SetAttr name key value) o = with_attributes (map.insert o.attributes key value) o
changed (RmAttr name key) o = with_attributes (map.remove o.attributes key) o
changed (RmAttrs name) o = with_attributes map.empty o
changed (OmapSetKeys name pairs) o = with_omap (with_pairs pairs o.omap) o
changed (OmapRmKeys name keys) o = with_omap (without_keys keys o.omap) o
changed (OmapRmKeyRange name from to bound) o =
    with_omap (without_keys (keys_between from to bound o.omap) o.omap) o
changed (OmapClear name) o = with_omap map.empty o
changed _ o = o

-- the object of an operation's name, if there is one after the operation: some operations make it
-- first
abbrev pub object_after : Op → Option ObjectValue → Option ObjectValue
object_after (Remove name) object = None
object_after op (Some object) = Some (changed op object)
object_after op None = cond (makes op) (Some (changed op empty_object)) None

-- why there would be too many values
abbrev pub overfull : ℕ → Values → Why → Option Why
overfull limit values why = cond (nat_lt limit (map.len values)) (Some why) None

-- why an operation on an object that is there is refused
abbrev pub overfills : Op → ObjectValue → Option Why
overfills (SetAttr name key value) o = overfull 64 (map.insert o.attributes key value) AttrFull
overfills (OmapSetKeys name pairs) o = overfull 10000 (with_pairs pairs o.omap) OmapFull
overfills _ o = None

-- why an operation is refused
abbrev pub refusal_at : Op → Option ObjectValue → Option Why
refusal_at op None = cond (needs_object op) (Some NoObject) None
refusal_at op (Some object) = overfills op object

-- the value of a key, if there is one
abbrev pub value_item : Option (List ℕ) → Item
value_item None = Absent
value_item (Some value) = Bytes value

-- what an operation answers of an object that is there
abbrev pub told : Op → ObjectValue → Item
told (OmapRmKeyRange name from to bound) o = Number (length (keys_between from to bound o.omap))
told (Read name offset count) o = Bytes (take count (drop offset o.bytes))
told (Stat name) o = Number (length o.bytes)
told (GetAttr name key) o = value_item (map.get o.attributes key)
told (GetAttrs name) o = Pairs (map.entries o.attributes)
told (OmapGet name key) o = value_item (map.get o.omap key)
told (OmapList name limit after) o = Pairs (first_pairs limit after o.omap)
told _ o = Nothing

-- what an operation answers of an object
abbrev pub item_at : Op → Option ObjectValue → Item
item_at op None = cond (changes op) Nothing Absent
item_at op (Some object) = told op object

-- the object of a name, where there is a name and an object
abbrev pub object_of : Option (List ℕ) → ObjectMap → Option ObjectValue
object_of None objects = None
object_of (Some name) objects = map.get objects name

abbrev pub put_object : Option (List ℕ) → Option ObjectValue → ObjectMap → ObjectMap
put_object None object objects = objects
put_object (Some name) object objects = with_object objects name object

-- the objects after an operation
abbrev pub effect : Op → ObjectMap → ObjectMap
effect op objects =
    cond (changes op)
    (put_object (name_of op) (object_after op (object_of (name_of op) objects)) objects)
    objects

-- what an operation on no object answers
abbrev pub listed : Op → ObjectMap → Item
listed (ListNames limit after) objects = Names (first_names limit after objects)
listed _ objects = Nothing

-- what an operation answers, on the object of a name or on none
abbrev pub item_for : Option (List ℕ) → Op → ObjectMap → Item
item_for None op objects = listed op objects
item_for (Some name) op objects = item_at op (map.get objects name)

-- what an operation answers
abbrev pub item : Op → ObjectMap → Item
item op objects = item_for (name_of op) op objects

-- why an operation is refused, if it is
abbrev pub refusal : Op → ObjectMap → Option Why
refusal op objects = refusal_at op (object_of (name_of op) objects)

-- the items of operations done in order
abbrev pub items : List Op → ObjectMap → List Item
items [] objects = []
items (op ∷ ops) objects = item op objects ∷ items ops (effect op objects)

-- the objects after operations done in order
abbrev pub effects : List Op → ObjectMap → ObjectMap
effects [] objects = objects
effects (op ∷ ops) objects = effects ops (effect op objects)

-- this operation, where it is refused, or else a later one
abbrev pub or_later : ℕ → Option Why → Option (ℕ × Why) → Option (ℕ × Why)
or_later number None later = later
or_later number (Some why) later = Some (number, why)

-- the first operation that is refused, counted on from a number, and why it is
abbrev pub first_refused : List Op → ℕ → ObjectMap → Option (ℕ × Why)
first_refused [] number objects = None
first_refused (op ∷ ops) number objects =
    or_later number (refusal op objects) (first_refused ops (number + 1) (effect op objects))

-- the reply, where this operation is refused or none is
abbrev pub reply_of : Option (ℕ × Why) → List Op → ObjectMap → Reply
reply_of (Some refused) ops objects = Refused refused.0 refused.1
reply_of None ops objects = Done (items ops objects)

-- the reply to a request
abbrev pub answer : List Op → ObjectMap → Reply
answer ops objects = reply_of (first_refused ops 1 objects) ops objects

abbrev pub after_of : Option (ℕ × Why) → List Op → ObjectMap → ObjectMap
after_of (Some refused) ops objects = objects
after_of None ops objects = effects ops objects

-- the objects after a request, which are those before it where an operation is refused
abbrev pub after : List Op → ObjectMap → ObjectMap
after ops objects = after_of (first_refused ops 1 objects) ops objects
