-- How pieces are spelled.
use Rattle.std.specs.Prelude.{◌≡◌, ℕ, ◌+◌, ◌≤◌, List, ◌++◌, length}
use Rattle.std.specs.List.{flat_map, AllByRecursion}
use Rattle.sea_base.specs.Field.{big_endian}
use Rattle.sea_base.specs.Name.{IsName}
use Rattle.sea_pieces.specs.declared.piece.Piece.{Piece}

-- a piece ends at 16,777,216 at most
abbrev pub IsPiece : Piece → Type 0
IsPiece piece = IsName piece.name × (piece.offset + length piece.bytes ≤ 16777216)

-- the length of the name in one byte, the name, the offset, the number of bytes, the bytes
unfoldable pub piece_bytes : Piece → List ℕ
piece_bytes piece =
    big_endian 1 (length piece.name)
    ++ piece.name
    ++ big_endian 4 piece.offset
    ++ big_endian 4 (length piece.bytes)
    ++ piece.bytes

-- the pieces, one behind the other
unfoldable pub spelling : List Piece → List ℕ
spelling pieces = flat_map piece_bytes pieces

-- the bytes are this piece's and the rest
abbrev pub BeginsWithPiece : List ℕ → Piece → List ℕ → Type 0
BeginsWithPiece bytes piece rest = IsPiece piece × (bytes ≡ piece_bytes piece ++ rest)

abbrev pub BeginsWithNoPiece : List ℕ → Type 0
BeginsWithNoPiece bytes = (piece : Piece) (rest : List ℕ) → BeginsWithPiece bytes piece rest → ⊥

-- the bytes are those of these pieces
abbrev pub ArePieces : List ℕ → List Piece → Type 0
ArePieces bytes pieces = AllByRecursion IsPiece pieces × (bytes ≡ spelling pieces)

abbrev pub AreNoPieces : List ℕ → Type 0
AreNoPieces bytes = (pieces : List Piece) → ArePieces bytes pieces → ⊥
