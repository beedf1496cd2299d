use Rattle.std.proofs.Common.{◌≡◌, ℕ, ◌<◌}
use Rattle.sea_segment.specs.declared.state.SegState.TheVariants.{Empty}
use Rattle.sea_segment.specs.Table.{state_of}
use Rattle.sea_segment.proofs.table.Table.pick_empty.Given as goal

abbrev pub invariant-loop-at : goal.invariant-loop-at
invariant-loop-at l = (k : ℕ) → k < l.at → state_of l.self k ≡ Empty → ⊥
