use Rattle.std.proofs.Common.{take}
use Rattle.sea_trail.specs.Trail.{AreLinked}
use Rattle.sea_trail_trial.proofs.plain.joining.broken_at.Given as goal

abbrev pub invariant-loop-i : goal.invariant-loop-i
invariant-loop-i l = AreLinked (take l.i l.parts)
