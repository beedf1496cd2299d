use Rattle.sea_trail_trial.specs.Plain.{IsNewestOf}
use Rattle.sea_trail_trial.proofs.plain.headers.newest_of.Given as goal

abbrev pub invariant-loop-segment : goal.invariant-loop-segment
invariant-loop-segment l = IsNewestOf l.image l.segment l.newest
