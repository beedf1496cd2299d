use Rattle.std.proofs.Common.{◌↔◌}
use Rattle.sea_device.specs.Past.{IsUnsyncedOf}
use Rattle.sea_device.proofs.call_log.CallLog.is_unsynced.Given as goal

abbrev pub invariant-loop-index : goal.invariant-loop-index
invariant-loop-index l = IsUnsyncedOf l.self l.moment l.block ↔ IsUnsyncedOf l.self l.index l.block
