-- A journal whose open segment has no room opens another one.
use Rattle.std.specs.Prelude.{◌≡◌, ℕ, ◌+◌, ◌-◌, List, [], length, Option, Some, None, IfSome}
use Rattle.sea_segment.specs.Table.{state_of, with_state}
use Rattle.sea_segment.specs.declared.header.Header.{Header}
use Rattle.sea_segment.specs.declared.state.SegState.{SegState}
use Rattle.sea_segment.specs.declared.state.SegState.TheVariants.{Empty, Active, Closed}
use Rattle.sea_segment.specs.declared.state.Segment.{Segment}
use Rattle.sea_trail.specs.Trail.{first_block, header_link, segment_end}
use Rattle.sea_journal.specs.Log.{Log, IsOfTrail}
use Rattle.sea_journal.specs.declared.queue.Queue.{Queue}
use Rattle.sea_journal.specs.declared.roll.Roll.{Roll}

-- the header that is being written is the one of the past
abbrev pub Writes : Option Header → Option Roll → Type 0
Writes None None = Unit {0}
Writes None (Some roll) = ⊥
Writes (Some h) None = ⊥
Writes (Some h) (Some roll) = roll.header ≡ h

-- How many blocks are left in the open segment, and its number. A segment that is being opened
-- counts.
abbrev pub rest_of : Option Roll → Queue → ℕ
rest_of None q = segment_end q.active - q.place.0
rest_of (Some roll) q = 2047

abbrev pub seq_of : Option Roll → Queue → ℕ
seq_of None q = q.seq
seq_of (Some roll) q = roll.header.seq

-- ---- the table of segments

-- a segment that is in use has this sequence number
abbrev pub HasNumber : SegState → ℕ → Type 0
HasNumber Empty n = ⊥
HasNumber (Active seq) n = seq ≡ n
HasNumber (Closed seq) n = seq ≡ n

-- The table has each segment of the trail, and that which is being opened.
pub record InTable (log : Log) (table : List Segment) : Type 0 where
  pub count : length table ≡ log.trail.segments
  pub trail : (s n : ℕ) → IsOfTrail log.anchor log.trail s n → HasNumber (state_of table s) n
  pub next : IfSome log.next (λ h. HasNumber (state_of table h.segment) h.seq)

-- the table once a segment is opened in the place of another
abbrev pub rolled_table : List Segment → ℕ → ℕ → ℕ → List Segment
rolled_table table active seq segment =
    with_state (with_state table active (Closed seq)) segment (Active (seq + 1))

-- ---- the queue

-- it begins behind this header, with nothing
pub record BeginsAt (h : Header) (q : Queue) : Type 0 where
  pub active : q.active ≡ h.segment
  pub seq : q.seq ≡ h.seq
  pub start : q.start.0 ≡ first_block h.segment
  pub place : q.place.0 ≡ first_block h.segment
  pub link : q.link ≡ header_link h
  pub bytes : q.bytes.items ≡ []
  pub count : q.count ≡ 0
