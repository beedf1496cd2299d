use Rattle.sea_trail_trial.specs.Plain.{NoneNumbered}
use Rattle.sea_trail_trial.proofs.plain.headers.numbered.Given as goal

abbrev pub invariant-loop-segment : goal.invariant-loop-segment
invariant-loop-segment l = NoneNumbered l.image l.segment l.seq
