use Rattle.std.proofs.Common.{length}
use Rattle.sea_object.proofs.slots.Slots.+run.Given as goal

-- each call is left one operation fewer
abbrev pub decreases-run : goal.decreases-run
decreases-run l = length l.ops.now
