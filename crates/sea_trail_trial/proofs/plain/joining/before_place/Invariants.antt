use Rattle.std.proofs.Common.{◌≡◌, ℕ, ◌<◌, take}
use Rattle.sea_trail.specs.Parts.{IsPlaced}
use Rattle.sea_trail.specs.Trail.{chain_end, first_block}
use Rattle.sea_trail_trial.proofs.plain.joining.before_place.Given as goal

abbrev pub invariant-loop-i : goal.invariant-loop-i
invariant-loop-i l = IsPlaced l.part → (k : ℕ) → k < l.i → l.place.0 ≡ chain_end (first_block l.part.header.segment) (take k l.part.records) → ⊥
