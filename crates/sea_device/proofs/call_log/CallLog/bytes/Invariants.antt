use Rattle.std.proofs.Common.{◌≡◌}
use Rattle.sea_device.specs.Moments.{bytes_at}
use Rattle.sea_device.specs.CallLog.{history}
use Rattle.sea_device.proofs.call_log.CallLog.bytes.Given as goal

abbrev pub invariant-loop-index : goal.invariant-loop-index
invariant-loop-index l = l.bytes.items ≡ bytes_at l.self.start.items (history l.self.written.items l.self.calls.items) l.index
