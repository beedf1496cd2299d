use Rattle.std.proofs.Common.{◌≡◌, take}
use Rattle.sea_device.specs.Memory.{laid}
use Rattle.sea_device.specs.Past.{stable_of, MayLeaveOf}
use Rattle.sea_device.proofs.memory.MemDevice.crash.Given as goal

abbrev pub invariant-loop-at : goal.invariant-loop-at
invariant-loop-at l = record {
  laid : l.bytes.items ≡ laid (take l.at-index l.at-items) (stable_of l.self.past l.moment);
  left : MayLeaveOf l.self.past l.moment l.bytes.items;
}
