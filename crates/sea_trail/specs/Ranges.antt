-- Where the fields of a trail lie, whatever the device tells.
use Rattle.std.specs.Prelude.{◌≡◌, ℕ, ◌<◌, ◌≤◌, ◌^◌}
use Rattle.sea_base.specs.RootFields.{IsRoot, IsTail}
use Rattle.sea_segment.specs.Header.{IsHeader}
use Rattle.sea_segment.specs.Superblock.{IsSegmentCount}
use Rattle.sea_trail.specs.declared.link.Link.{Link}
use Rattle.sea_trail.specs.declared.trail.Part.{Part}
use Rattle.sea_trail.specs.declared.trail.Trail.{Trail}
use Rattle.sea_trail.specs.Trail.{blocks_needed, first_block, segment_end, trail_link}

-- what a link hands on keeps the rules of headers and records
pub record LinkInRange (link : Link) : Type 0 where
  pub mount : link.mount < 2 ^ 63
  pub commit : link.commit.0 < 2 ^ 63
  pub tail : IsTail link.tail
  pub root : IsRoot link.root

-- a place is behind the header of a segment, and not behind the segment
abbrev pub EndsIn : ℕ → ℕ → Type 0
EndsIn segment place = (first_block segment ≤ place) × (place ≤ segment_end segment)

pub record PartInRange (p : Part) : Type 0 where
  pub header : IsHeader p.header
  pub ends : EndsIn p.header.segment p.end.0
  pub last : LinkInRange p.last

-- The fields of a trail on a device of so many blocks: its segments are on the device, the open
-- one is one of them, the trail ends in it, the tail isn't in a later one, and the last record
-- keeps the rules.
pub record IsInRange (t : Trail) (size : ℕ) : Type 0 where
  pub segments : IsSegmentCount t.segments
  pub room : blocks_needed t.segments ≤ size
  pub active : t.active < t.segments
  pub ends : EndsIn t.active t.end.0
  pub seq : (1 ≤ t.seq) × (t.seq < 2 ^ 63)
  pub tail : t.tail.seq ≤ t.seq
  pub last : LinkInRange (trail_link t)

-- a trail has its last fields from its open segment
pub record HasFieldsOf (newest : Part) (t : Trail) : Type 0 where
  pub active : t.active ≡ newest.header.segment
  pub seq : t.seq ≡ newest.header.seq
  pub ends : t.end ≡ newest.end
  pub last : trail_link t ≡ newest.last
