-- The first 176 bytes of a record.
use Rattle.std.specs.Prelude.{◌≡◌, ℕ, ◌^◌, ◌<◌, List, ◌++◌, length, codes}
use Rattle.sea_base.specs.Field.{big_endian}
use Rattle.sea_base.specs.RootFields.{root_bytes, IsTail, IsRoot}
use Rattle.sea_record.specs.declared.header.Header.{Header}
use Rattle.sea_record.specs.declared.record.Kind.{Kind}
use Rattle.sea_record.specs.declared.record.Kind.TheVariants.{Mount, Client, Shift, Nodes, Plain}

abbrev pub kind_number : Kind → ℕ
kind_number Mount = 1
kind_number Client = 2
kind_number Shift = 3
kind_number Nodes = 4
kind_number Plain = 9

-- At 0 the word, at 8 the format, at 12 the kind, at 16 the mount number, at 24 the sequence
-- number, at 32 the place, at 36 how many blocks of payload, at 40 how many of metadata, at 44 the
-- metadata's length, at 48 the commit number, at 56 tail and roots, at 112 the digest before, at
-- 144 its own.
unfoldable pub header_bytes : Header → List ℕ
header_bytes h =
    codes "SEARECRD" ++ big_endian 4 1 ++ big_endian 4 (kind_number h.kind) ++ big_endian 8 h.mount
    ++ big_endian 8 h.seq ++ big_endian 4 h.place.0 ++ big_endian 4 h.payload
    ++ big_endian 4 h.blocks ++ big_endian 4 h.bytes ++ big_endian 8 h.commit.0
    ++ root_bytes h.tail h.root ++ h.prev.0 ++ h.digest.0

-- each field has room for what it holds, and tail and roots are some
pub record IsHeader (h : Header) : Type 0 where
  pub mount : h.mount < 2 ^ 64
  pub seq : h.seq < 2 ^ 64
  pub place : h.place.0 < 2 ^ 32
  pub payload : h.payload < 2 ^ 32
  pub blocks : h.blocks < 2 ^ 32
  pub bytes : h.bytes < 2 ^ 32
  pub commit : h.commit.0 < 2 ^ 64
  pub tail : IsTail h.tail
  pub root : IsRoot h.root
  pub prev : length h.prev.0 ≡ 32
  pub digest : length h.digest.0 ≡ 32
