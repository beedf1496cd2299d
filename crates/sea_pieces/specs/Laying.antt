-- What pieces make of objects, and which pieces an operation is.
use Rattle.std.specs.Prelude.{◌≡◌, ℕ, List, [], ◌∷◌, Option, Some, None, unwrap_or}
use Rattle.std.specs.List.{flat_map}
use Rattle.std.specs.FinMap as map
use Rattle.sea_object.specs.declared.op.Op.{Op}
use Rattle.sea_object.specs.declared.op.Op.TheVariants.{Touch, Write, Read, Stat}
use Rattle.sea_object.specs.Answer.{with_bytes, written}
use Rattle.sea_object.specs.Objects.{ObjectMap, ObjectValue, empty_object}
use Rattle.sea_pieces.specs.declared.piece.Piece.{Piece}

-- old bytes with others laid over them, which leave them as they are where there are none
abbrev pub laid : ℕ → List ℕ → List ℕ → List ℕ
laid offset [] old = old
laid offset (b ∷ bytes) old = written offset (b ∷ bytes) old

-- the object of a name, an empty one where there is none
abbrev pub object_under : ObjectMap → List ℕ → ObjectValue
object_under objects name = unwrap_or (map.get objects name) empty_object

-- the objects with a piece laid over them
abbrev pub after_piece : Piece → ObjectMap → ObjectMap
after_piece piece objects =
    map.insert objects piece.name
    (with_bytes (laid piece.offset piece.bytes (object_under objects piece.name).bytes)
    (object_under objects piece.name))

-- with pieces laid over them in order
abbrev pub after_pieces : List Piece → ObjectMap → ObjectMap
after_pieces [] objects = objects
after_pieces (piece ∷ pieces) objects = after_pieces pieces (after_piece piece objects)

-- the operations that pieces can do
abbrev pub IsServed : Op → Type 0
IsServed (Touch name) = Unit {0}
IsServed (Write name offset bytes) = Unit {0}
IsServed (Read name offset count) = Unit {0}
IsServed (Stat name) = Unit {0}
IsServed _ = ⊥

-- What an operation lays over its object: a touch no bytes, a write its own.
abbrev pub op_pieces : Op → List Piece
op_pieces (Touch name) = record { name = name; offset = 0; bytes = [] } ∷ []
op_pieces (Write name offset bytes) = record { name = name; offset = offset; bytes = bytes } ∷ []
op_pieces _ = []

-- what operations lay over the objects, in order
abbrev pub pieces_of : List Op → List Piece
pieces_of ops = flat_map op_pieces ops

-- The object that an operation reads, if it reads one. What only makes or writes reads nothing.
abbrev pub read_name : Op → Option (List ℕ)
read_name (Read name offset count) = Some name
read_name (Stat name) = Some name
read_name _ = None

-- what two maps of objects must share for an operation to answer the same on both
abbrev pub SharesRead : Option (List ℕ) → ObjectMap → ObjectMap → Type 0
SharesRead None objects others = Unit {0}
SharesRead (Some name) objects others = map.get objects name ≡ map.get others name
