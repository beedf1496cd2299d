-- What calls of a device change of it, at each moment.
use Rattle.std.specs.Prelude.{◌≡◌, ◌⊎◌, ℕ, ◌*◌, ◌≤◌, List, Option, Some, None, IfSome, Result, Ok, Err}
use Rattle.sea_base.specs.Faults.{FaultsRose}
use Rattle.sea_device.specs.declared.device.Device.{Ghosts}
use Rattle.sea_device.specs.Device.{Follows, Torn}

-- told bytes stay told, and come by a step
abbrev pub ToldBy : (List ℕ → List ℕ → Type 0) → Option (List ℕ) → Option (List ℕ) → Type 0
ToldBy step None None = Unit {0}
ToldBy step None (Some new) = ⊥
ToldBy step (Some old) None = ⊥
ToldBy step (Some old) (Some new) = step old new

-- A device changed by such a step alone: its bytes did, and so did each image that a crash may leave
-- now or might have left at a moment since.
pub record ChangesBy {D : Type 0} (step : List ℕ → List ℕ → Type 0) (g : Ghosts D)
    (old new : D) : Type 0 where
  pub size : g.size new ≡ g.size old
  pub told : g.tells_images new ≡ g.tells_images old
  pub contents : ToldBy step (g.contents old) (g.contents new)
  pub images : Follows step (g.may_leave old) (g.may_leave new)
  pub later : g.clock old ≤ g.clock new
  pub moments : (t : ℕ) (c : List ℕ) → t ≤ g.clock old → g.left_since new t c
      → g.left_since old t c ⊎ ((d : List ℕ) × g.may_leave old d × step d c)
  pub keeps : (t : ℕ) (c : List ℕ) → t ≤ g.clock old → g.left_since old t c
      → g.left_since new t c

-- at most these blocks from a place on were written, whole or torn
abbrev pub InBlocks : ℕ → ℕ → List ℕ → List ℕ → Type 0
InBlocks at count = Torn (4096 * at) (4096 * count)

-- the count of faults rose where a call failed, and stands still else
abbrev pub CountsFaults : {T E : Type 0} → ℕ → ℕ → Result T E → Type 0
CountsFaults before now (Ok x) = now ≡ before
CountsFaults before now (Err e) = FaultsRose before now

-- a crash leaves the bytes now, and nothing else
abbrev pub LeavesItself : {D : Type 0} → Ghosts D → D → Type 0
LeavesItself g device =
    (c : List ℕ) → g.may_leave device c → IfSome (g.contents device) (λ b. c ≡ b)
