-- The first 96 bytes of a record.
use Rattle.std.specs.Prelude.{◌≡◌, ◌<◌, ◌^◌, List, ℕ, ◌++◌, length, replicate, codes}
use Rattle.sea_base.specs.Field.{big_endian}
use Rattle.sea_top.specs.declared.record.header.Header.{Header}

-- At 0 the word, at 8 the commit number, at 16 the number of blocks, at 20 the length of the pieces, at 32 the digest
-- of the record before, at 64 its own. What no field names is zero.
unfoldable pub header_bytes : Header → List ℕ
header_bytes h =
    codes "SEAPLAIN" ++ big_endian 8 h.commit.0 ++ big_endian 4 h.blocks ++ big_endian 4 h.body_len ++ replicate 8 0 ++ h.previous.0 ++ h.digest.0

-- each field has room for what it holds
pub record IsHeader (h : Header) : Type 0 where
  pub commit : h.commit.0 < 2 ^ 64
  pub blocks : h.blocks < 2 ^ 32
  pub body_len : h.body_len < 2 ^ 32
  pub previous : length h.previous.0 ≡ 32
  pub digest : length h.digest.0 ≡ 32
