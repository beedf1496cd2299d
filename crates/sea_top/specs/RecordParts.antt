-- What the parts of a record that are read stand for.
use Rattle.std.specs.Prelude.{◌≡◌, ℕ, ◌+◌, ◌-◌, ◌*◌, ◌/◌, ◌≤◌, List, ◌++◌, length, take, drop, replicate, slice_range}
use Rattle.std.specs.List.{AllByRecursion}
use Rattle.sea_base.specs.Digest.{sha256}
use Rattle.sea_top.specs.declared.record.Piece.{Piece}
use Rattle.sea_top.specs.declared.record.header.Header.{Header}
use Rattle.sea_top.specs.Header.{header_bytes, IsHeader}
use Rattle.sea_top.specs.Record.{IsPiece, piece_bytes, body_bytes}

-- the bytes are this header's and others behind it
abbrev pub BeginsWithHeader : List ℕ → Header → Type 0
BeginsWithHeader bytes h = IsHeader h × (bytes ≡ header_bytes h ++ drop 96 bytes)

abbrev pub BeginsWithNoHeader : List ℕ → Type 0
BeginsWithNoHeader bytes = (h : Header) (rest : List ℕ) → IsHeader h → bytes ≡ header_bytes h ++ rest → ⊥

-- the bytes are this piece's and the rest
abbrev pub BeginsWithPiece : List ℕ → Piece → List ℕ → Type 0
BeginsWithPiece bytes piece rest = IsPiece piece × (bytes ≡ piece_bytes piece ++ rest)

abbrev pub BeginsWithNoPiece : List ℕ → Type 0
BeginsWithNoPiece bytes = (piece : Piece) (rest : List ℕ) → BeginsWithPiece bytes piece rest → ⊥

-- the bytes are those of these pieces
abbrev pub ArePieces : List ℕ → List Piece → Type 0
ArePieces bytes pieces = AllByRecursion IsPiece pieces × (bytes ≡ body_bytes pieces)

abbrev pub AreNoPieces : List ℕ → Type 0
AreNoPieces bytes = (pieces : List Piece) → ArePieces bytes pieces → ⊥

-- The bytes that begin with a header are those of a record, whatever its pieces: there is a piece, the blocks are
-- as many as these need and all there, what stands behind them is zero, and the digest is right.
pub record IsSealed (bytes : List ℕ) (h : Header) : Type 0 where
  pub counted : 1 ≤ h.commit.0
  pub some : 1 ≤ h.body_len
  pub few : h.blocks ≤ 1024
  pub blocks : h.blocks ≡ (96 + h.body_len + 4095) / 4096
  pub within : 4096 * h.blocks ≤ length bytes
  pub zero : slice_range bytes (96 + h.body_len) (4096 * h.blocks) ≡ replicate (4096 * h.blocks - (96 + h.body_len)) 0
  pub digest : h.digest.0 ≡ sha256 (take 64 (take (4096 * h.blocks) bytes) ++ replicate 32 0 ++ drop 96 (take (4096 * h.blocks) bytes))
