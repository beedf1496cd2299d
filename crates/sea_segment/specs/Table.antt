-- What the table of segments holds, and which segments it picks.
use Rattle.std.specs.Prelude.{◌≡◌, ℕ, ◌<◌, ◌≤◌, ◌^◌, List, length, slice_index_or, slice_set}
use Rattle.std.specs.Prelude.{count_by}
use Rattle.sea_segment.specs.declared.state.SegState.{SegState}
use Rattle.sea_segment.specs.declared.state.SegState.TheVariants.{Empty}
use Rattle.sea_segment.specs.declared.state.Segment.{Segment}
use Rattle.sea_segment.specs.State.{is_empty, IsClosedBefore}

-- a segment of a new table
abbrev pub fresh : Segment
fresh = record { state = Empty; live = 0 }

-- what the table holds of a segment
abbrev pub segment_of : List Segment → ℕ → Segment
segment_of table s = slice_index_or table s fresh

abbrev pub state_of : List Segment → ℕ → SegState
state_of table s = (segment_of table s).state

abbrev pub live_of : List Segment → ℕ → ℕ
live_of table s = (segment_of table s).live

-- the table with another state of a segment, and with another count of its live blocks
abbrev pub with_state : List Segment → ℕ → SegState → List Segment
with_state table s state = slice_set table s (record { state = state; live = live_of table s })

abbrev pub with_live : List Segment → ℕ → ℕ → List Segment
with_live table s live = slice_set table s (record { state = state_of table s; live = live })

-- how many segments are empty
abbrev pub empty_of : List Segment → ℕ
empty_of table = count_by (λ s. is_empty s.state) table

-- a segment of the table that is empty
abbrev pub IsEmpty : List Segment → ℕ → Type 0
IsEmpty table s = (s < length table) × (state_of table s ≡ Empty)

-- the least empty segment
pub record IsLeastEmpty (table : List Segment) (s : ℕ) : Type 0 where
  pub empty : IsEmpty table s
  pub least : (k : ℕ) → IsEmpty table k → s ≤ k

-- a closed segment with a sequence number below this one, of whose 2,047 blocks fewer than 1,791
-- are live
pub record MayBeVictim (table : List Segment) (before s : ℕ) : Type 0 where
  pub within : s < length table
  pub closed : IsClosedBefore (state_of table s) before
  pub few : live_of table s < 1791

-- of these, one with the fewest live blocks, and of these the least
pub record IsVictim (table : List Segment) (before s : ℕ) : Type 0 where
  pub may_be : MayBeVictim table before s
  pub fewest : (k : ℕ) → MayBeVictim table before k → live_of table s ≤ live_of table k
  pub least : (k : ℕ) → MayBeVictim table before k → live_of table k ≡ live_of table s → s ≤ k

-- what is kept beside the segments: how many of them are empty
pub record IsCounted (table : List Segment) (empty : ℕ) : Type 0 where
  pub few : length table < 2 ^ 32
  pub counted : empty ≡ empty_of table
