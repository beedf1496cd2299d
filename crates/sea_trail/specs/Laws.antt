-- What holds of all images and their trails.
use Rattle.std.specs.Prelude.{◌≡◌, ℕ, ◌+◌, ◌-◌, ◌*◌, ◌⊎◌, List, [], ◌∷◌, ◌++◌, length, take, drop}
use Rattle.std.specs.List.{All}
use Rattle.sea_record.specs.declared.record.Record.{Record}
use Rattle.sea_segment.specs.declared.header.Header.{Header}
use Rattle.sea_trail.specs.declared.fault.ImageWhy.{ImageWhy}
use Rattle.sea_trail.specs.declared.trail.Part.{Part}
use Rattle.sea_trail.specs.declared.trail.Trail.{Trail}
use Rattle.sea_trail.specs.Trail.{IsTrail, IsChain, HasHeader, AreHeaders, AreFrom, Follows}
use Rattle.sea_trail.specs.Trail.{block_of, body_of, header_block, header_link, first_block}
use Rattle.sea_trail.specs.Trail.{chain_end, last_link, trail_link}
use Rattle.sea_trail.specs.Refusals.{IsRefused}

-- an image has one trail alone
abbrev pub OneTrail : Type 0
OneTrail = (image : List ℕ) (t u : Trail) → IsTrail image t → IsTrail image u → t ≡ u

-- what has a trail isn't refused
abbrev pub NotBoth : Type 0
NotBoth = (image : List ℕ) (t : Trail) (why : ImageWhy) → IsTrail image t → IsRefused image why → ⊥

-- an image is refused for one reason alone
abbrev pub OneReason : Type 0
OneReason = (image : List ℕ) (a b : ImageWhy) → IsRefused image a → IsRefused image b → a ≡ b

-- ---- another image with the links of a trail

-- a segment is as it was
abbrev pub SameSegment : List ℕ → List ℕ → ℕ → Type 0
SameSegment old new s =
    (block_of new (header_block s) ≡ block_of old (header_block s))
    × (body_of new s ≡ body_of old s)

-- the bytes of the open segment behind the trail
abbrev pub rest_of : List ℕ → Trail → List ℕ
rest_of image t = drop (4096 * (t.end.0 - first_block t.active)) (body_of image t.active)

-- Another image has the bytes of the superblock, of the closed segments, and of the open one up to
-- the trail's end, where they were.
pub record KeepsLinks (old new : List ℕ) (t : Trail) (trail : IsTrail old t) : Type 0 where
  pub size : length new ≡ length old
  pub super : block_of new 0 ≡ block_of old 0
  pub closed : All (λ p. SameSegment old new p.header.segment) trail.closed
  pub header : block_of new (header_block t.active) ≡ block_of old (header_block t.active)
  pub records : let n = 4096 * (t.end.0 - first_block t.active) in
      take n (body_of new t.active) ≡ take n (body_of old t.active)

-- the open segment with further records
abbrev pub grown_part : Part → List Record → Part
grown_part p news = record {
  header = p.header;
  records = p.records ++ news;
  end = record { 0 = chain_end p.end.0 news };
  last = last_link p.last news;
}

-- The records go on behind a trail, and the tail may move on among its segments: this is the trail
-- then.
pub record GrowsTo (old : List ℕ) (t : Trail) (trail : IsTrail old t) (news : List Record)
    (new : List ℕ) (u : Trail) : Type 0 where
  pub segments : u.segments ≡ t.segments
  pub headers : AreHeaders new 0 u.segments u.headers
  pub active : u.active ≡ t.active
  pub seq : u.seq ≡ t.seq
  pub ends : u.end.0 ≡ chain_end t.end.0 news
  pub last : trail_link u ≡ last_link (trail_link t) news
  pub passed : List Part
  pub closed : List Part
  pub cut : trail.closed ≡ passed ++ closed
  pub joined : u.tail.seq + length closed ≡ t.seq
  pub records : AreFrom u.tail.place.0 (closed ++ grown_part trail.newest news ∷ []) u.records

-- Where the links of a trail stand, there is no other header than were, and records go on behind
-- it, these are added to the trail. With none, the trail stays but for its list of headers: what
-- lies elsewhere doesn't matter.
abbrev pub Grows : Type 0
Grows = (old new : List ℕ) (t u : Trail) (trail : IsTrail old t) → KeepsLinks old new t trail
    → ((k : Header) → HasHeader new t.segments k → HasHeader old t.segments k)
    → (news : List Record) → IsChain (rest_of new t) t.end.0 t.seq (trail_link t) news
    → GrowsTo old t trail news new u → IsTrail new u

-- The records from the tail on, where the tail stays.
abbrev pub GrowsFrom : Type 0
GrowsFrom = (place : ℕ) (closed : List Part) (p : Part) (records news : List Record)
    → AreFrom place (closed ++ p ∷ []) records
    → AreFrom place (closed ++ grown_part p news ∷ []) (records ++ news)

-- ---- a new segment behind a trail

-- The trail with a new segment open, which has no record yet.
pub record RollsTo (t : Trail) (h : Header) (new : List ℕ) (u : Trail) : Type 0 where
  pub segments : u.segments ≡ t.segments
  pub headers : AreHeaders new 0 u.segments u.headers
  pub active : u.active ≡ h.segment
  pub seq : u.seq ≡ h.seq
  pub ends : u.end.0 ≡ first_block h.segment
  pub last : trail_link u ≡ header_link h
  pub records : u.records ≡ t.records

-- Where the links of a trail stand and nothing goes on behind them, and a header with the next
-- sequence number goes on from it and is the only one that wasn't there, that segment is open.
abbrev pub Rolls : Type 0
Rolls = (old new : List ℕ) (t u : Trail) (h : Header) (trail : IsTrail old t)
    → KeepsLinks old new t trail
    → IsChain (rest_of new t) t.end.0 t.seq (trail_link t) []
    → HasHeader new t.segments h → h.seq ≡ t.seq + 1 → Follows (trail_link t) h → h.tail ≡ t.tail
    → ((k : Header) → HasHeader new t.segments k → (k ≡ h) ⊎ HasHeader old t.segments k)
    → IsChain (body_of new h.segment) (first_block h.segment) h.seq (header_link h) []
    → RollsTo t h new u → IsTrail new u
