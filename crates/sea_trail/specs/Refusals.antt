-- Why an image has no trail: the first reason that holds, in this order.
use Rattle.std.specs.Prelude.{◌≡◌, ℕ, ◌<◌, ◌≤◌, List, [], ◌∷◌, ◌++◌}
use Rattle.sea_record.specs.declared.record.Record.{Record}
use Rattle.sea_segment.specs.declared.header.Header.{Header}
use Rattle.sea_trail.specs.declared.fault.ImageWhy.{ImageWhy}
use Rattle.sea_trail.specs.declared.fault.ImageWhy.TheVariants.{NoSuper, OldFormat, Short}
use Rattle.sea_trail.specs.declared.fault.ImageWhy.TheVariants.{NoSegment, MissingSegment}
use Rattle.sea_trail.specs.declared.fault.ImageWhy.TheVariants.{BadRecord}
use Rattle.sea_trail.specs.declared.fault.ScanFault.{ScanFault}
use Rattle.sea_trail.specs.declared.fault.ScanFault.TheVariants as scans
use Rattle.sea_trail.specs.declared.trail.Part.{Part}
use Rattle.sea_trail.specs.Trail.{HasSuper, HasSegments, HasHeader, IsNumbered, IsOpen, AreClosed}
use Rattle.sea_trail.specs.Trail.{AreLinked, AreFrom, Follows, blocks_in, blocks_needed}

-- its superblock is of another format
pub record IsOld (image : List ℕ) (found : ℕ) : Type 0 where
  pub segments : ℕ
  pub super : HasSuper image found segments
  pub other : found ≡ 1 → ⊥

-- it has fewer blocks than its segments need
pub record IsShort (image : List ℕ) (have need : ℕ) : Type 0 where
  pub segments : ℕ
  pub super : HasSuper image 1 segments
  pub has : have ≡ blocks_in image
  pub needs : need ≡ blocks_needed segments
  pub fewer : have < need

-- no segment has a header
pub record HasNoSegment (image : List ℕ) : Type 0 where
  pub segments : ℕ
  pub super : HasSegments image segments
  pub none : (h : Header) → HasHeader image segments h → ⊥

-- no segment has this number, the least of those from the tail's to the open segment's
pub record IsMissing (image : List ℕ) (seq : ℕ) : Type 0 where
  pub segments : ℕ
  pub newest : Part
  pub is_open : IsOpen image segments newest
  pub from_tail : newest.last.tail.seq ≤ seq
  pub to_newest : seq ≤ newest.header.seq
  pub none : (h : Header) → HasHeader image segments h → h.seq ≡ seq → ⊥
  pub first : (q : ℕ) → newest.last.tail.seq ≤ q → q < seq
      → (h : Header) × IsNumbered image segments q h

-- The tail names a segment behind the open one.
pub record TailAhead (image : List ℕ) (block : ℕ) : Type 0 where
  pub segments : ℕ
  pub newest : Part
  pub is_open : IsOpen image segments newest
  pub ahead : newest.header.seq < newest.last.tail.seq
  pub at : block ≡ newest.last.tail.place.0

-- Of these segments, one ends at the block, and the next doesn't go on from it; those before do.
pub record IsBreak (parts : List Part) (block : ℕ) : Type 0 where
  pub front : List Part
  pub part : Part
  pub next : Part
  pub back : List Part
  pub cut : parts ≡ front ++ part ∷ next ∷ back
  pub linked : AreLinked (front ++ part ∷ [])
  pub broken : Follows part.last next.header → ⊥
  pub at : block ≡ part.end.0

-- Such a break stands among the segments from the tail's on.
pub record IsTorn (image : List ℕ) (block : ℕ) : Type 0 where
  pub segments : ℕ
  pub newest : Part
  pub is_open : IsOpen image segments newest
  pub closed : List Part
  pub are_closed : AreClosed image segments newest closed
  pub first_break : IsBreak (closed ++ newest ∷ []) block

-- All go on from one another, and no record is at the tail's place, nor the end of its segment's
-- chain.
pub record TailAstray (image : List ℕ) (block : ℕ) : Type 0 where
  pub segments : ℕ
  pub newest : Part
  pub is_open : IsOpen image segments newest
  pub closed : List Part
  pub are_closed : AreClosed image segments newest closed
  pub linked : AreLinked (closed ++ newest ∷ [])
  pub none : (records : List Record)
      → AreFrom newest.last.tail.place.0 (closed ++ newest ∷ []) records → ⊥
  pub at : block ≡ newest.last.tail.place.0

pub data IsBad (image : List ℕ) (block : ℕ) : Type 0 where
  ahead : TailAhead image block → IsBad image block
  torn : IsTorn image block → IsBad image block
  astray : TailAstray image block → IsBad image block

-- the image is refused for this
abbrev pub IsRefused : List ℕ → ImageWhy → Type 0
IsRefused image NoSuper = (format segments : ℕ) → HasSuper image format segments → ⊥
IsRefused image (OldFormat found) = IsOld image found
IsRefused image (Short have need) = IsShort image have need
IsRefused image NoSegment = HasNoSegment image
IsRefused image (MissingSegment seq) = IsMissing image seq
IsRefused image (BadRecord block) = IsBad image block.0

-- a scan that refuses an image says why
abbrev pub Refuses : List ℕ → ScanFault → Type 0
Refuses image scans.NoMemory = Unit {0}
Refuses image scans.DeviceFault = Unit {0}
Refuses image (scans.Refused why) = IsRefused image why
