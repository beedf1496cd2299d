-- What the plain reader finds of an image.
use Rattle.std.specs.Prelude.{◌≡◌, ℕ, List, Option, Some, None}
use Rattle.sea_record.specs.declared.record.Record.{Record}
use Rattle.sea_segment.specs.declared.header.Header.{Header}
use Rattle.sea_trail.specs.declared.link.Link.{Link}
use Rattle.sea_trail.specs.declared.trail.Part.{Part}
use Rattle.sea_trail.specs.Trail.{Continues, IsChain, IsNewest, NoHeader, StandsIn, HasHeader, chain_end, first_block, last_link, link_of}

-- no header stands in this segment
abbrev pub HasNone : List ℕ → ℕ → Type 0
HasNone image segment = (h : Header) → h.segment ≡ segment → StandsIn image h → ⊥

-- this one does
abbrev pub HasOne : List ℕ → ℕ → Header → Type 0
HasOne image segment h = (h.segment ≡ segment) × StandsIn image h

-- no header of so many segments has this sequence number
abbrev pub NoneNumbered : List ℕ → ℕ → ℕ → Type 0
NoneNumbered image segments seq = (h : Header) → HasHeader image segments h → h.seq ≡ seq → ⊥

-- the header with the greatest number, of so many segments
abbrev pub IsNewestOf : List ℕ → ℕ → Option Header → Type 0
IsNewestOf image segments None = NoHeader image 0 segments
IsNewestOf image segments (Some h) = IsNewest image segments h

-- the chain behind this link, in the bytes from the first block of a segment on
pub record IsPartBehind (h : Header) (link : Link) (bytes : List ℕ) (p : Part) : Type 0 where
  pub header : p.header ≡ h
  pub chain : IsChain bytes (first_block h.segment) h.seq link p.records
  pub ends : p.end.0 ≡ chain_end (first_block h.segment) p.records
  pub last : p.last ≡ last_link link p.records

-- a record with which a part goes on, and what it hands on
abbrev pub GoesOn : List ℕ → Part → Record → Link → Type 0
GoesOn bytes p r link = Continues bytes p.end.0 p.header.seq p.last r × (link ≡ link_of r)
