-- How a segment is used.
use Rattle.std.specs.Prelude.{ℕ, ◌<◌, Bool, true, false}
use Rattle.sea_segment.specs.declared.state.SegState.{SegState}
use Rattle.sea_segment.specs.declared.state.SegState.TheVariants.{Empty, Active, Closed}

abbrev pub is_empty : SegState → Bool
is_empty Empty = true
is_empty (Active seq) = false
is_empty (Closed seq) = false

-- closed, with a sequence number below this one
abbrev pub IsClosedBefore : SegState → ℕ → Type 0
IsClosedBefore Empty before = ⊥
IsClosedBefore (Active seq) before = ⊥
IsClosedBefore (Closed seq) before = seq < before
