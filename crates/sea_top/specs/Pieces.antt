-- What a request writes, and the room that its record needs.
use Rattle.std.specs.Prelude.{ℕ, List, [], ◌∷◌}
use Rattle.std.specs.List.{flat_map}
use Rattle.sea_plain.specs.declared.op.Op.{Op}
use Rattle.sea_plain.specs.declared.op.Op.TheVariants.{Write, Read}
use Rattle.sea_top.specs.declared.record.Piece.{Piece}
use Rattle.sea_top.specs.Record.{blocks_of}

-- what an operation writes
abbrev pub op_pieces : Op → List Piece
op_pieces (Write name offset bytes) = record { name = name; offset = offset; bytes = bytes } ∷ []
op_pieces (Read name offset count) = []

-- the pieces of a request's record, one for each write
abbrev pub pieces_asked : List Op → List Piece
pieces_asked ops = flat_map op_pieces ops

-- the blocks of a record with these pieces, and none where there is no piece
abbrev pub record_need : List Piece → ℕ
record_need [] = 0
record_need (piece ∷ pieces) = blocks_of (piece ∷ pieces)

-- the blocks that a request needs
abbrev pub need_of : List Op → ℕ
need_of ops = record_need (pieces_asked ops)
