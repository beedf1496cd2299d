-- What a journal found, what it made, and what of that is stable.
use Rattle.std.specs.Prelude.{◌≡◌, ◌⊎◌, ℕ, ◌+◌, ◌-◌, ◌*◌, ◌<◌, ◌≤◌, List, [], ◌∷◌, ◌++◌, length, take, Option, Some, None, IfSome}
use Rattle.std.specs.List.{All, Contains}
use Rattle.sea_base.specs.declared.place.Tail.{Tail}
use Rattle.sea_device.specs.Device.{Torn}
use Rattle.sea_record.specs.declared.record.Record.{Record}
use Rattle.sea_segment.specs.Header.{IsHeader}
use Rattle.sea_segment.specs.declared.header.Header.{Header}
use Rattle.sea_trail.specs.Laws.{grown_part}
use Rattle.sea_trail.specs.Trail.{AreFrom, HasHeader, IsNewest, IsNumbered, IsTrail, body_of, chain_end, first_block, header_block, header_link, last_link, records_in, segment_end, trail_link}
use Rattle.sea_trail.specs.declared.link.Link.{Link}
use Rattle.sea_trail.specs.declared.trail.Part.{Part}
use Rattle.sea_trail.specs.declared.trail.Trail.{Trail}
use Rattle.sea_journal.specs.Links.{Linked, StandInRow}

-- A journal's past. The anchor is the image that the last good sync of records left, and where a
-- segment was opened since, that image with its header and zeros behind it. Behind the anchor's
-- trail the queued records wait.
pub record Log : Type 0 where
  -- the image that was opened
  pub opened : List ℕ
  -- the headers and the records that were made since, in order
  pub headers : List Header
  pub made : List Record
  pub anchor : List ℕ
  pub trail : Trail
  pub queued : List Record
  -- the header of a segment that is being opened: a write of it has begun, and it may stand or not
  pub next : Option Header

-- ---- clear images

-- a record of the trail of an image
pub record IsOnTrail (image : List ℕ) (r : Record) : Type 0 where
  pub trail : Trail
  pub is_trail : IsTrail image trail
  pub among : Contains (records_in (is_trail.closed ++ is_trail.newest ∷ [])) r

-- The journal found it at its opening, or made it itself.
abbrev pub IsKnown : Log → Record → Type 0
IsKnown log r = IsOnTrail log.opened r ⊎ Contains log.made r

abbrev pub IsKnownHeader : Log → Header → Type 0
IsKnownHeader log h = HasHeader log.opened log.trail.segments h ⊎ Contains log.headers h

-- An image is clear for a journal where the journal knows each header in it, and each record in a
-- row behind that of the open segment.
pub record IsClear (log : Log) (image : List ℕ) : Type 0 where
  pub headers : (h : Header) → HasHeader image log.trail.segments h → IsKnownHeader log h
  pub records : (h : Header) (row : List Record) → IsNewest image log.trail.segments h
      → StandInRow (body_of image h.segment) (first_block h.segment) h.seq (header_link h) row
      → All (IsKnown log) row

-- ---- the trail, with records behind it

-- Where all records behind a trail name its tail, none is left behind.
abbrev pub NoneGone : Trail → List Record → List Record → Type 0
NoneGone t news gone = All (λ r. r.tail ≡ t.tail) news → gone ≡ []

-- The trail u is t with these records behind it, but for records that its tail has left behind.
pub record Extends (t : Trail) (news : List Record) (u : Trail) : Type 0 where
  pub segments : u.segments ≡ t.segments
  pub active : u.active ≡ t.active
  pub seq : u.seq ≡ t.seq
  pub ends : u.end.0 ≡ chain_end t.end.0 news
  pub last : trail_link u ≡ last_link (trail_link t) news
  pub gone : List Record
  pub records : t.records ++ news ≡ gone ++ u.records
  pub none : NoneGone t news gone

-- The trail u is t with this header behind it, and no record behind that.
pub record Opens (t : Trail) (h : Header) (u : Trail) : Type 0 where
  pub segments : u.segments ≡ t.segments
  pub active : u.active ≡ h.segment
  pub seq : u.seq ≡ h.seq
  pub ends : u.end.0 ≡ first_block h.segment
  pub last : trail_link u ≡ header_link h
  pub records : u.records ≡ t.records

-- An image has the trail of what is stable, and then a prefix of the queued records.
pub record HasRecords (log : Log) (image : List ℕ) : Type 0 where
  pub count : ℕ
  pub within : count ≤ length log.queued
  pub trail : Trail
  pub is_trail : IsTrail image trail
  pub extends : Extends log.trail (take count log.queued) trail

-- It has the trail of what is stable, where nothing is queued, and then the header that is being
-- written.
pub record HasNext (log : Log) (image : List ℕ) (h : Header) : Type 0 where
  pub begun : log.next ≡ Some h
  pub alone : log.queued ≡ []
  pub trail : Trail
  pub is_trail : IsTrail image trail
  pub opens : Opens log.trail h trail

-- An image has the trail of what is stable, and then a prefix of what is queued: records, and
-- behind all of them the header that is being written.
pub data HasPrefix (log : Log) (image : List ℕ) : Type 0 where
  up_to_record : HasRecords log image → HasPrefix log image
  up_to_header : (h : Header) → HasNext log image h → HasPrefix log image

-- It differs from the anchor in the open segment behind the trail alone.
abbrev pub IsBehind : Log → List ℕ → Type 0
IsBehind log image =
    let end = log.trail.end.0 in
    Torn (4096 * end) (4096 * (segment_end log.trail.active - end)) log.anchor image

-- It differs from the anchor in the block of this header alone.
abbrev pub IsBeside : Log → Header → List ℕ → Type 0
IsBeside log h image = Torn (4096 * header_block h.segment) 4096 log.anchor image

abbrev pub DiffersBy : Log → Option Header → List ℕ → Type 0
DiffersBy log None image = IsBehind log image
DiffersBy log (Some h) image = IsBeside log h image

-- An image differs from the anchor in the open segment behind the trail alone, or, while a segment
-- is being opened, in the block of its header alone.
abbrev pub IsAfter : Log → List ℕ → Type 0
IsAfter log image = DiffersBy log log.next image

-- ---- segments of a trail

-- From the tail on the segment s of the trail of an image has this sequence number.
pub record IsOfTrail (image : List ℕ) (t : Trail) (s n : ℕ) : Type 0 where
  pub from : t.tail.seq ≤ n
  pub upto : n ≤ t.seq
  pub header : Header
  pub numbered : IsNumbered image t.segments n header
  pub here : header.segment ≡ s

-- no segment of the trail of an image stands there
abbrev pub HasNoneAt : ℕ → List ℕ → Type 0
HasNoneAt s image = (t : Trail) → IsTrail image t → (n : ℕ) → IsOfTrail image t s n → ⊥

-- no segment of the trail stands there
pub record IsSpare (image : List ℕ) (t : Trail) (s : ℕ) : Type 0 where
  pub within : s < t.segments
  pub apart : (n : ℕ) → IsOfTrail image t s n → ⊥

-- Where this header stands, or stands again, the image has its trail all the same: it has no
-- greater number than the open segment, and where a segment of the trail has its number, it is not
-- in a lower one.
pub record IsNoNewer (image : List ℕ) (t : Trail) (k : Header) : Type 0 where
  pub upto : k.seq ≤ t.seq
  pub behind : (s : ℕ) → IsOfTrail image t s k.seq → s ≤ k.segment

-- the header that goes on from a link, in this segment
abbrev pub header_behind : ℕ → ℕ → Link → Header
header_behind segment seq link = record {
  segment = segment;
  mount = link.mount;
  seq = seq + 1;
  commit = link.commit;
  tail = link.tail;
  root = link.root;
  prev = link.digest;
}

-- ---- what holds of a past

-- Where the records go on behind a trail, the tail of the last of them names a place on it.
pub record HasTail (anchor : List ℕ) (t : Trail) (trail : IsTrail anchor t) (news : List Record) : Type 0 where
  pub passed : List Part
  pub closed : List Part
  pub cut : trail.closed ≡ passed ++ closed
  pub joined : (last_link (trail_link t) news).tail.seq + length closed ≡ t.seq
  pub records : List Record
  pub from : AreFrom (last_link (trail_link t) news).tail.place.0
      (closed ++ grown_part trail.newest news ∷ []) records
  pub gone : List Record
  pub left : t.records ++ news ≡ gone ++ records
  pub none : NoneGone t news gone

-- the headers that a journal knows can be listed
pub record KnowsHeaders (log : Log) : Type 0 where
  pub list : List Header
  pub headers : All IsHeader list
  pub all : (k : Header) → IsKnownHeader log k → Contains list k

-- A header goes on from all that was made, where no segment of the trail is.
pub record IsNextHeader (log : Log) (h : Header) : Type 0 where
  pub alone : log.queued ≡ []
  pub is_header : IsHeader h
  pub is : h ≡ header_behind h.segment log.trail.seq (trail_link log.trail)
  pub spare : IsSpare log.anchor log.trail h.segment
  pub made : Contains log.headers h

pub record IsLog (log : Log) : Type 0 where
  pub trail : IsTrail log.anchor log.trail
  pub linked : Linked log.trail.end.0 log.trail.seq (trail_link log.trail) log.queued
  pub tails : (j : ℕ) → j ≤ length log.queued
      → HasTail log.anchor log.trail trail (take j log.queued)
  -- what was found has lower numbers than what is queued, and so has all else that was made
  pub found : (r : Record) → IsOnTrail log.opened r → r.commit.0 ≤ log.trail.commit.0
  pub made : (r : Record) → Contains log.made r → log.trail.commit.0 < r.commit.0
      → Contains log.queued r
  -- what stands in the anchor is known, and what is queued was made
  pub headers : (h : Header) → HasHeader log.anchor log.trail.segments h → IsKnownHeader log h
  pub records : All (IsKnown log) trail.newest.records
  pub queued : All (Contains log.made) log.queued
  -- no known header but the one that is being written is newer than the trail
  pub numbers : (k : Header) → IsKnownHeader log k
      → IsNoNewer log.anchor log.trail k ⊎ (log.next ≡ Some k)
  pub known : KnowsHeaders log
  pub next : IfSome log.next (IsNextHeader log)

-- ---- steps

-- The tail that the next record may name: that of the last one; a record's place on the trail or in
-- the queue; or its own place.
pub data NamesTail (log : Log) (tail : Tail) : Type 0 where
  stays : tail ≡ (last_link (trail_link log.trail) log.queued).tail → NamesTail log tail
  at_record : (r : Record) → Contains (log.trail.records ++ log.queued) r → tail.seq ≡ r.seq
      → tail.place.0 ≡ r.place.0 → NamesTail log tail
  at_end : tail.seq ≡ log.trail.seq → tail.place.0 ≡ chain_end log.trail.end.0 log.queued
      → NamesTail log tail

-- the past with one more record made, which waits
abbrev pub pushed : Log → Record → Log
pushed log r = record log { made = log.made ++ r ∷ []; queued = log.queued ++ r ∷ [] }

-- What was queued is stable. With an empty queue nothing changed.
pub record IsSynced (old new : Log) : Type 0 where
  pub opened : new.opened ≡ old.opened
  pub headers : new.headers ≡ old.headers
  pub made : new.made ≡ old.made
  pub trail : Extends old.trail old.queued new.trail
  pub stand : new.trail.headers ≡ old.trail.headers
  pub queued : new.queued ≡ []
  pub next : new.next ≡ old.next
  pub still : old.queued ≡ [] → new ≡ old

-- the past with a header that is being written
abbrev pub begun : Log → Header → Log
begun log h = record log { headers = log.headers ++ h ∷ []; next = Some h }

-- The headers that were made, with this one: it is the one whose write had begun, where one had.
abbrev pub WithHeader : Option Header → Header → List Header → List Header → Type 0
WithHeader None h old new = new ≡ old ++ h ∷ []
WithHeader (Some k) h old new = (h ≡ k) × (new ≡ old)

-- What was queued is stable, and a segment is open behind it, which has no record yet.
pub record IsRolled (old new : Log) : Type 0 where
  pub opened : new.opened ≡ old.opened
  pub made : new.made ≡ old.made
  pub stable : Trail
  pub extends : Extends old.trail old.queued stable
  pub still : old.queued ≡ [] → stable ≡ old.trail
  pub header : Header
  pub is : header ≡ header_behind header.segment stable.seq (trail_link stable)
  pub headers : WithHeader old.next header old.headers new.headers
  pub trail : Opens stable header new.trail
  pub queued : new.queued ≡ []
  pub next : new.next ≡ None

-- The segment of the header that was being written is open.
pub record IsFinished (old new : Log) (h : Header) : Type 0 where
  pub opened : new.opened ≡ old.opened
  pub headers : new.headers ≡ old.headers
  pub made : new.made ≡ old.made
  pub trail : Opens old.trail h new.trail
  pub queued : new.queued ≡ []
  pub next : new.next ≡ None

-- How far a roll came: nothing changed; what was queued is stable; the write of a header behind it
-- has begun; or a segment is open.
pub data GoesOn (old new : Log) : Type 0 where
  as_before : new ≡ old → GoesOn old new
  after_sync : IsSynced old new → GoesOn old new
  after_begin : (mid : Log) → IsSynced old mid → (h : Header) → new ≡ begun mid h → GoesOn old new
  after_roll : IsRolled old new → GoesOn old new
