-- What the parts of an image that are read stand for.
use Rattle.std.specs.Prelude.{◌≡◌, ℕ, ◌+◌, ◌<◌, ◌≤◌, List, [], ◌∷◌, ◌++◌, length, take, Option}
use Rattle.std.specs.Prelude.{Some, None, IfSome}
use Rattle.sea_record.specs.Record.{blocks}
use Rattle.sea_record.specs.declared.record.Record.{Record}
use Rattle.sea_segment.specs.Header.{IsHeader, SpellsHeader}
use Rattle.sea_segment.specs.declared.header.Header.{Header}
use Rattle.sea_trail.specs.declared.fault.ImageWhy.{ImageWhy}
use Rattle.sea_trail.specs.declared.fault.ImageWhy.TheVariants.{NoSuper, OldFormat, Short}
use Rattle.sea_trail.specs.declared.fault.ImageWhy.TheVariants.{NoSegment, MissingSegment}
use Rattle.sea_trail.specs.declared.fault.ImageWhy.TheVariants.{BadRecord}
use Rattle.sea_trail.specs.declared.survey.Found.{Found}
use Rattle.sea_trail.specs.declared.survey.Survey.{Survey}
use Rattle.sea_trail.specs.declared.chain.Next.{Next}
use Rattle.sea_trail.specs.declared.trail.Part.{Part}
use Rattle.sea_trail.specs.Trail.{IsSuper, IsNewest, IsOpen, IsChain, AreClosed, Continues}
use Rattle.sea_trail.specs.Trail.{StandsIn, NoHeader, blocks_needed, chain_end, first_block}
use Rattle.sea_trail.specs.Trail.{header_link, last_link, link_of}

-- the first block is a superblock
abbrev pub HasFirst : List ℕ → ℕ → ℕ → Type 0
HasFirst block format segments = IsSuper block format segments

-- why the first block of an image of so many blocks names no segments
abbrev pub IsFirstWhy : List ℕ → ℕ → ImageWhy → Type 0
IsFirstWhy block have NoSuper = (format segments : ℕ) → IsSuper block format segments → ⊥
IsFirstWhy block have (OldFormat found) =
    (segments : ℕ) × IsSuper block found segments × (found ≡ 1 → ⊥)
IsFirstWhy block have (Short had need) =
    (segments : ℕ) × IsSuper block 1 segments × (had ≡ have) × (need ≡ blocks_needed segments)
    × (had < need)
IsFirstWhy block have NoSegment = ⊥
IsFirstWhy block have (MissingSegment seq) = ⊥
IsFirstWhy block have (BadRecord at) = ⊥

-- a segment's first block spells no header that names it
abbrev pub SpellsNone : List ℕ → ℕ → Type 0
SpellsNone block segment = (h : Header) → h.segment ≡ segment → SpellsHeader block h → ⊥

-- it spells this one
pub record IsFoundIn (block : List ℕ) (segment : ℕ) (f : Found) : Type 0 where
  pub named : f.header.segment ≡ segment
  pub spells : SpellsHeader block f.header
  pub link : f.link ≡ header_link f.header

-- the headers of the segments between these, with what they hand on
abbrev pub AreFound : List ℕ → ℕ → ℕ → List Found → Type 0
AreFound image from to [] = NoHeader image from to
AreFound image from to (f ∷ fs) =
    (from ≤ f.header.segment) × (f.header.segment < to) × StandsIn image f.header
    × (f.link ≡ header_link f.header) × NoHeader image from f.header.segment
    × AreFound image (f.header.segment + 1) to fs

-- which of them is the open segment's
abbrev pub IsNewestFound : List ℕ → ℕ → Option Found → Type 0
IsNewestFound image segments None = NoHeader image 0 segments
IsNewestFound image segments (Some f) =
    IsNewest image segments f.header × (f.link ≡ header_link f.header)

pub record IsSurvey (survey : Survey) (segments : ℕ) (image : List ℕ) : Type 0 where
  pub found : AreFound image 0 segments survey.found.items
  pub newest : IsNewestFound image segments survey.newest

-- a header that was found can be gone on from, whatever the device tells
pub record IsFit (segments : ℕ) (f : Found) : Type 0 where
  pub within : f.header.segment < segments
  pub header : IsHeader f.header
  pub link : f.link ≡ header_link f.header

abbrev pub AreFit : ℕ → List Found → Type 0
AreFit segments [] = Unit {0}
AreFit segments (f ∷ fs) = IsFit segments f × AreFit segments fs

pub record SurveyFits (survey : Survey) (segments : ℕ) : Type 0 where
  pub found : AreFit segments survey.found.items
  pub newest : IfSome survey.newest (IsFit segments)

-- the chain of a segment whose bytes behind the header these are
pub record IsPartOf (found : Found) (bytes : List ℕ) (p : Part) : Type 0 where
  pub header : p.header ≡ found.header
  pub chain : IsChain bytes (first_block found.header.segment) found.header.seq found.link p.records
  pub ends : p.end.0 ≡ chain_end (first_block found.header.segment) p.records
  pub last : p.last ≡ last_link found.link p.records

-- a record with which a part goes on
pub record GoesOn (bytes : List ℕ) (p : Part) (next : Next) : Type 0 where
  pub continues : Continues bytes p.end.0 p.header.seq p.last next.entry
  pub link : next.link ≡ link_of next.entry

-- records name the places where they stand
abbrev pub ArePlaced : ℕ → List Record → Type 0
ArePlaced place [] = Unit {0}
ArePlaced place (r ∷ rs) = (r.place.0 ≡ place) × ArePlaced (place + blocks r.body) rs

pub record IsPlaced (p : Part) : Type 0 where
  pub records : ArePlaced (first_block p.header.segment) p.records
  pub ends : p.end.0 ≡ chain_end (first_block p.header.segment) p.records

-- a place is behind so many records of a part
abbrev pub IsPlace : Part → ℕ → ℕ → Type 0
IsPlace p place at =
    (at ≤ length p.records) × (place ≡ chain_end (first_block p.header.segment) (take at p.records))

abbrev pub HasNoPlace : Part → ℕ → Type 0
HasNoPlace p place = (before : List Record) (after : List Record) → p.records ≡ before ++ after
    → place ≡ chain_end (first_block p.header.segment) before → ⊥

-- all that a scan reads: the open segment, the closed ones, and the headers
pub record IsTold (image : List ℕ) (segments : ℕ) (found : List Found) (closed : List Part)
    (newest : Part) : Type 0 where
  pub headers : AreFound image 0 segments found
  pub is_open : IsOpen image segments newest
  pub are_closed : AreClosed image segments newest closed
