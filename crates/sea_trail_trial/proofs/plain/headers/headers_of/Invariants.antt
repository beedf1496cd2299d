use Rattle.sea_trail.specs.Trail.{AreHeaders}
use Rattle.sea_trail_trial.proofs.plain.headers.headers_of.Given as goal

abbrev pub invariant-loop-segment : goal.invariant-loop-segment
invariant-loop-segment l = AreHeaders l.image 0 l.segment l.headers.items
