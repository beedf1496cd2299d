-- Plain records: what they hold, and how they are spelled.
use Rattle.std.specs.Prelude.{◌≡◌, ℕ, ◌+◌, ◌-◌, ◌*◌, ◌/◌, ◌^◌, ◌<◌, ◌≤◌, List, ◌++◌, length, replicate}
use Rattle.std.specs.List.{flat_map, AllByRecursion}
use Rattle.sea_base.specs.Digest.{sha256}
use Rattle.sea_base.specs.Field.{big_endian}
use Rattle.sea_base.specs.Name.{IsName}
use Rattle.sea_top.specs.declared.record.header.Header.{Header}
use Rattle.sea_top.specs.declared.record.Piece.{Piece}
use Rattle.sea_top.specs.declared.record.PlainRecord.{PlainRecord}
use Rattle.sea_top.specs.Header.{header_bytes}

-- a piece ends at 16,777,216 at most
abbrev pub IsPiece : Piece → Type 0
IsPiece piece = IsName piece.name × (piece.offset + length piece.bytes ≤ 16777216)

-- the length of the name in one byte, the name, the offset, the number of bytes, the bytes
unfoldable pub piece_bytes : Piece → List ℕ
piece_bytes piece =
    big_endian 1 (length piece.name) ++ piece.name ++ big_endian 4 piece.offset ++ big_endian 4 (length piece.bytes) ++ piece.bytes

-- the pieces of a record, one behind the other
unfoldable pub body_bytes : List Piece → List ℕ
body_bytes pieces = flat_map piece_bytes pieces

-- the blocks that a record with these pieces takes: 96 bytes before the pieces, in whole blocks
unfoldable pub blocks_of : List Piece → ℕ
blocks_of pieces = (96 + length (body_bytes pieces) + 4095) / 4096

-- what may be a plain record
pub record IsPlain (plain : PlainRecord) : Type 0 where
  pub counted : 1 ≤ plain.commit.0
  pub commit : plain.commit.0 < 2 ^ 64
  pub previous : length plain.previous.0 ≡ 32
  pub some : 1 ≤ length plain.pieces
  pub pieces : AllByRecursion IsPiece plain.pieces
  pub blocks : blocks_of plain.pieces ≤ 1024

-- the header of a record with this digest in the place of its own
abbrev pub header_of : PlainRecord → List ℕ → Header
header_of plain digest = record {
  commit = plain.commit;
  blocks = blocks_of plain.pieces;
  body_len = length (body_bytes plain.pieces);
  previous = plain.previous;
  digest = record { 0 = digest };
}

-- The bytes of a record with this digest in the place of its own: its header, its pieces, and zeros up to its end.
unfoldable pub sealed : PlainRecord → List ℕ → List ℕ
sealed plain digest =
    header_bytes (header_of plain digest) ++ body_bytes plain.pieces ++ replicate (4096 * blocks_of plain.pieces - (96 + length (body_bytes plain.pieces))) 0

-- A record's digest is taken with zeros in its own place.
unfoldable pub digest_of : PlainRecord → List ℕ
digest_of plain = sha256 (sealed plain (replicate 32 0))

-- the one spelling of a record
unfoldable pub spelling : PlainRecord → List ℕ
spelling plain = sealed plain (digest_of plain)

-- the bytes begin with this record's spelling
pub record BeginsWith (bytes : List ℕ) (plain : PlainRecord) : Type 0 where
  pub plain_record : IsPlain plain
  pub behind : List ℕ
  pub spelled : bytes ≡ spelling plain ++ behind

-- and with no record's
abbrev pub BeginsWithNone : List ℕ → Type 0
BeginsWithNone bytes = (plain : PlainRecord) → BeginsWith bytes plain → ⊥
