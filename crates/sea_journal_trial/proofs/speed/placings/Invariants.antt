use Rattle.sea_journal_trial.specs.Bodies.{ArePlaced}
use Rattle.sea_journal_trial.proofs.speed.placings.Given as goal

abbrev pub invariant-loop-i : goal.invariant-loop-i
invariant-loop-i l = ArePlaced l.commit l.i l.placed
