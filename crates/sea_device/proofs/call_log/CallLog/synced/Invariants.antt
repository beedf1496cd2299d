use Rattle.std.proofs.Common.{◌≡◌}
use Rattle.sea_device.specs.Moments.{stable_at}
use Rattle.sea_device.specs.CallLog.{history}
use Rattle.sea_device.proofs.call_log.CallLog.synced.Given as goal

abbrev pub invariant-loop-index : goal.invariant-loop-index
invariant-loop-index l =
    let past = history l.self.written.items l.self.calls.items in
    stable_at l.self.start.items past l.moment ≡ stable_at l.self.start.items past l.index
