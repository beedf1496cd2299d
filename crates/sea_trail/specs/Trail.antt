-- The trail of an image: which segments and records count, where they end, and what the last of
-- them says. An image is the list of its bytes.
use Rattle.std.specs.Prelude.{◌≡◌, ℕ, ◌+◌, ◌*◌, ◌/◌, ◌<◌, ◌≤◌, List, [], ◌∷◌, ◌++◌, length, drop}
use Rattle.std.specs.Prelude.{slice_range}
use Rattle.std.specs.List.{flat_map}
use Rattle.sea_record.specs.Record.{BeginsWith, blocks, own_digest}
use Rattle.sea_record.specs.declared.record.Kind.{Kind}
use Rattle.sea_record.specs.declared.record.Kind.TheVariants.{Mount, Client, Shift, Nodes, Plain}
use Rattle.sea_record.specs.declared.record.Record.{Record}
use Rattle.sea_segment.specs.Header.{SpellsHeader, header_digest}
use Rattle.sea_segment.specs.Superblock.{SpellsAnySuper, IsSegmentCount}
use Rattle.sea_segment.specs.declared.header.Header.{Header}
use Rattle.sea_trail.specs.declared.link.Link.{Link}
use Rattle.sea_trail.specs.declared.trail.Part.{Part}
use Rattle.sea_trail.specs.declared.trail.Trail.{Trail}

-- ---- where things stand: block 0 is the superblock; a segment has 2,048 blocks, first its header

abbrev pub header_block : ℕ → ℕ
header_block segment = 1 + 2048 * segment

abbrev pub first_block : ℕ → ℕ
first_block segment = 2 + 2048 * segment

abbrev pub segment_end : ℕ → ℕ
segment_end segment = 2049 + 2048 * segment

abbrev pub block_of : List ℕ → ℕ → List ℕ
block_of image at = slice_range image (4096 * at) (4096 * (at + 1))

-- the bytes of a segment behind its header
abbrev pub body_of : List ℕ → ℕ → List ℕ
body_of image segment = slice_range image (4096 * first_block segment) (4096 * segment_end segment)

-- ---- superblock and headers

-- The block is a superblock of this format. One of format 1 has 6 to 8,191 segments.
pub record IsSuper (block : List ℕ) (format segments : ℕ) : Type 0 where
  pub spells : SpellsAnySuper block format segments
  pub count : format ≡ 1 → IsSegmentCount segments

-- and the first block of an image is one
abbrev pub HasSuper : List ℕ → ℕ → ℕ → Type 0
HasSuper image format segments = IsSuper (block_of image 0) format segments

abbrev pub blocks_in : List ℕ → ℕ
blocks_in image = length image / 4096

abbrev pub blocks_needed : ℕ → ℕ
blocks_needed segments = 1 + 2048 * segments

-- it has these segments, and the blocks that they need
pub record HasSegments (image : List ℕ) (segments : ℕ) : Type 0 where
  pub super : HasSuper image 1 segments
  pub long : blocks_needed segments ≤ blocks_in image

-- a header stands in the segment that it names
abbrev pub StandsIn : List ℕ → Header → Type 0
StandsIn image h = SpellsHeader (block_of image (header_block h.segment)) h

-- and this is one of so many
pub record HasHeader (image : List ℕ) (segments : ℕ) (h : Header) : Type 0 where
  pub within : h.segment < segments
  pub stands : StandsIn image h

-- no segment between these has a header
abbrev pub NoHeader : List ℕ → ℕ → ℕ → Type 0
NoHeader image from to = (h : Header) → from ≤ h.segment → h.segment < to → StandsIn image h → ⊥

-- the headers of the segments between these, by segments
abbrev pub AreHeaders : List ℕ → ℕ → ℕ → List Header → Type 0
AreHeaders image from to [] = NoHeader image from to
AreHeaders image from to (h ∷ hs) =
    (from ≤ h.segment) × (h.segment < to) × StandsIn image h × NoHeader image from h.segment
    × AreHeaders image (h.segment + 1) to hs

-- the header with this sequence number, in the least segment of several
pub record IsNumbered (image : List ℕ) (segments seq : ℕ) (h : Header) : Type 0 where
  pub has : HasHeader image segments h
  pub number : h.seq ≡ seq
  pub least : (k : Header) → HasHeader image segments k → k.seq ≡ seq → h.segment ≤ k.segment

-- that of the open segment: it has the greatest number
pub record IsNewest (image : List ℕ) (segments : ℕ) (h : Header) : Type 0 where
  pub numbered : IsNumbered image segments h.seq h
  pub greatest : (k : Header) → HasHeader image segments k → k.seq ≤ h.seq

-- ---- chains of records

abbrev pub link_of : Record → Link
link_of r = record {
  mount = r.mount;
  commit = r.commit;
  digest = record { 0 = own_digest r };
  tail = r.tail;
  root = r.root;
}

abbrev pub header_link : Header → Link
header_link h = record {
  mount = h.mount;
  commit = h.commit;
  digest = record { 0 = header_digest h };
  tail = h.tail;
  root = h.root;
}

-- a mount record counts one opening more
abbrev pub mount_after : Kind → ℕ → ℕ
mount_after Mount mount = mount + 1
mount_after Client mount = mount
mount_after Shift mount = mount
mount_after Nodes mount = mount
mount_after Plain mount = mount

-- The bytes from a place to the end of a segment begin with a record that goes on from what stands
-- before it.
pub record Continues (bytes : List ℕ) (place seq : ℕ) (link : Link) (r : Record) : Type 0 where
  pub stands : BeginsWith bytes r
  pub same_segment : r.seq ≡ seq
  pub in_place : r.place.0 ≡ place
  pub commit : r.commit.0 ≡ link.commit.0 + 1
  pub mount : r.mount ≡ mount_after r.body.kind link.mount
  pub prev : r.prev.0 ≡ link.digest.0

abbrev pub NoneContinues : List ℕ → ℕ → ℕ → Link → Type 0
NoneContinues bytes place seq link = (r : Record) → Continues bytes place seq link r → ⊥

-- the longest chain of records from a place on, each at the block behind the one before
abbrev pub IsChain : List ℕ → ℕ → ℕ → Link → List Record → Type 0
IsChain bytes place seq link [] = NoneContinues bytes place seq link
IsChain bytes place seq link (r ∷ rs) =
    Continues bytes place seq link r
    × IsChain (drop (4096 * blocks r.body) bytes) (place + blocks r.body) seq (link_of r) rs

-- the block behind records, and what the last of them hands on
abbrev pub chain_end : ℕ → List Record → ℕ
chain_end place [] = place
chain_end place (r ∷ rs) = chain_end (place + blocks r.body) rs

abbrev pub last_link : Link → List Record → Link
last_link link [] = link
last_link link (r ∷ rs) = last_link (link_of r) rs

-- the chain of a segment begins behind its header, and these are its records
pub record HasChain (image : List ℕ) (p : Part) : Type 0 where
  pub chain : IsChain (body_of image p.header.segment) (first_block p.header.segment) p.header.seq
      (header_link p.header) p.records
  pub ends : p.end.0 ≡ chain_end (first_block p.header.segment) p.records
  pub last : p.last ≡ last_link (header_link p.header) p.records

-- ---- segments one after the other

-- the segments with these sequence numbers, counted up from one
abbrev pub AreParts : List ℕ → ℕ → ℕ → List Part → Type 0
AreParts image segments seq [] = Unit {0}
AreParts image segments seq (p ∷ ps) =
    IsNumbered image segments seq p.header × HasChain image p × AreParts image segments (seq + 1) ps

-- a header goes on from a closed segment, of which this is the last link
pub record Follows (link : Link) (h : Header) : Type 0 where
  pub prev : h.prev.0 ≡ link.digest.0
  pub commit : h.commit.0 ≡ link.commit.0
  pub mount : h.mount ≡ link.mount

-- each goes on from the one before
abbrev pub FollowOn : Link → List Part → Type 0
FollowOn link [] = Unit {0}
FollowOn link (p ∷ ps) = Follows link p.header × FollowOn p.last ps

abbrev pub AreLinked : List Part → Type 0
AreLinked [] = Unit {0}
AreLinked (p ∷ ps) = FollowOn p.last ps

-- the records of segments, in order
abbrev pub records_in : List Part → List Record
records_in ps = flat_map (λ p. p.records) ps

-- These are the records from a place on: the place is that of a record in the first segment, or the
-- end of the chain there.
abbrev pub AreFrom : ℕ → List Part → List Record → Type 0
AreFrom place [] records = ⊥
AreFrom place (p ∷ ps) records =
    (before : List Record) × (after : List Record) × (p.records ≡ before ++ after)
    × (place ≡ chain_end (first_block p.header.segment) before) × (records ≡ after ++ records_in ps)

-- ---- the trail

-- what the last record or header hands on
abbrev pub trail_link : Trail → Link
trail_link t =
    record { mount = t.mount; commit = t.commit; digest = t.last; tail = t.tail; root = t.root }

-- the open segment with its chain
pub record IsOpen (image : List ℕ) (segments : ℕ) (p : Part) : Type 0 where
  pub super : HasSegments image segments
  pub newest : IsNewest image segments p.header
  pub chain : HasChain image p

-- The closed segments from the tail's on, up to the open one. The tail is what the last link names.
pub record AreClosed (image : List ℕ) (segments : ℕ) (newest : Part) (closed : List Part)
    : Type 0 where
  pub parts : AreParts image segments newest.last.tail.seq closed
  pub joined : newest.last.tail.seq + length closed ≡ newest.header.seq

-- this is the trail of the image
pub record IsTrail (image : List ℕ) (t : Trail) : Type 0 where
  pub headers : AreHeaders image 0 t.segments t.headers
  pub newest : Part
  pub is_open : IsOpen image t.segments newest
  pub active : t.active ≡ newest.header.segment
  pub seq : t.seq ≡ newest.header.seq
  pub ends : t.end ≡ newest.end
  pub last : trail_link t ≡ newest.last
  pub closed : List Part
  pub are_closed : AreClosed image t.segments newest closed
  pub linked : AreLinked (closed ++ newest ∷ [])
  pub records : AreFrom t.tail.place.0 (closed ++ newest ∷ []) t.records
