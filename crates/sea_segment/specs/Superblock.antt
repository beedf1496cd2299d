-- The superblock, and how block 0 spells it.
use Rattle.std.specs.Prelude.{◌≡◌, ℕ, ◌<◌, ◌≤◌, ◌^◌, List, ◌++◌, replicate, codes, take}
use Rattle.std.specs.Prelude.{slice_range}
use Rattle.sea_base.specs.Field.{big_endian}
use Rattle.sea_segment.specs.Seal.{sealed, AreZeros, HasSeal}

-- the first 64 bytes: the word, the number of the format, the number of segments, and zeros
unfoldable pub super_front : ℕ → ℕ → List ℕ
super_front format segments =
    codes "SEASUPER" ++ big_endian 4 format ++ big_endian 4 segments ++ replicate 48 0

-- The block spells a superblock of this format, whichever it is, with this number of segments.
pub record SpellsAnySuper (bytes : List ℕ) (format segments : ℕ) : Type 0 where
  pub format_fits : format < 2 ^ 32
  pub segments_fit : segments < 2 ^ 32
  pub spelled : bytes ≡ sealed (super_front format segments)

-- how many segments an image may have
abbrev pub IsSegmentCount : ℕ → Type 0
IsSegmentCount segments = (6 ≤ segments) × (segments ≤ 8191)

-- The block spells a superblock of format 1 with this number of segments.
pub record SpellsSuper (bytes : List ℕ) (segments : ℕ) : Type 0 where
  pub count : IsSegmentCount segments
  pub spelled : bytes ≡ sealed (super_front 1 segments)

-- what every superblock has besides its two numbers
pub record IsSuperShape (bytes : List ℕ) : Type 0 where
  pub word : take 8 bytes ≡ codes "SEASUPER"
  pub zero : AreZeros (slice_range bytes 16 64)
  pub seal : HasSeal bytes 64
