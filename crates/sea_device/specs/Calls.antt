-- What the calls of a device leave of it, at a bound `D: Device`.
use Rattle.std.specs.Prelude.{◌≡◌}
use Rattle.sea_device.specs.declared.device.Device.{Ghosts}
use Rattle.sea_device.specs.Device.{IsSame, Elapses}

-- What reads leave of a device: all but its count of faults.
pub record OnlyRead {D : Type 0} (g : Ghosts D) (old new : D) : Type 0 where
  pub size : g.size new ≡ g.size old
  pub contents : g.contents new ≡ g.contents old
  pub told : g.tells_images new ≡ g.tells_images old
  pub images : IsSame (g.may_leave old) (g.may_leave new)
  pub time : Elapses (g.clock old) (g.clock new) (g.left_since old) (g.left_since new)
      (g.may_leave new)
