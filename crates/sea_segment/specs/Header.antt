-- The header of a segment, and how the segment's first block spells it.
use Rattle.std.specs.Prelude.{◌≡◌, ℕ, ◌<◌, ◌≤◌, ◌^◌, List, ◌++◌, length, replicate, codes, take}
use Rattle.std.specs.Prelude.{slice_range}
use Rattle.sea_base.specs.Field.{big_endian}
use Rattle.sea_base.specs.RootFields.{root_bytes, IsRoot, IsTail}
use Rattle.sea_segment.specs.declared.header.Header.{Header}
use Rattle.sea_segment.specs.Seal.{own_digest, sealed, AreZeros, HasSeal}

-- The first 144 bytes: the word, the number 1 of the format, the segment, the mount number, the
-- sequence number, zeros, the commit number, tail and roots, and the digest of what stands before
-- it in the chain.
unfoldable pub header_front : Header → List ℕ
header_front h =
    codes "SEASEGMT" ++ big_endian 4 1 ++ big_endian 4 h.segment ++ big_endian 8 h.mount
    ++ big_endian 8 h.seq ++ replicate 16 0 ++ big_endian 8 h.commit.0 ++ root_bytes h.tail h.root
    ++ h.prev.0

-- the digest that the header's block has of itself
unfoldable pub header_digest : Header → List ℕ
header_digest h = own_digest (header_front h)

-- the rules of its fields
pub record IsHeader (h : Header) : Type 0 where
  pub segment : h.segment < 2 ^ 32
  pub mount : h.mount < 2 ^ 63
  pub seq : (1 ≤ h.seq) × (h.seq < 2 ^ 63)
  pub commit : h.commit.0 < 2 ^ 63
  pub tail : IsTail h.tail
  pub root : IsRoot h.root
  pub prev : length h.prev.0 ≡ 32

-- the bytes of a block spell this header
pub record SpellsHeader (bytes : List ℕ) (h : Header) : Type 0 where
  pub header : IsHeader h
  pub spelled : bytes ≡ sealed (header_front h)

-- what every header has besides its fields
pub record IsHeaderShape (bytes : List ℕ) : Type 0 where
  pub word : take 8 bytes ≡ codes "SEASEGMT"
  pub format : slice_range bytes 8 12 ≡ big_endian 4 1
  pub zero : AreZeros (slice_range bytes 32 48)
  pub seal : HasSeal bytes 144

-- the numbers of a header are in their ranges
pub record HasRanges (h : Header) : Type 0 where
  pub mount : h.mount < 2 ^ 63
  pub seq : (1 ≤ h.seq) × (h.seq < 2 ^ 63)
  pub commit : h.commit.0 < 2 ^ 63
