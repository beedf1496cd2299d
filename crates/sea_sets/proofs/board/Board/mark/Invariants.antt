use Rattle.sea_sets.proofs.Places.{IsMarkedBelow}
use Rattle.sea_sets.proofs.board.Board.mark.Given as goal

abbrev pub invariant-loop-place : goal.invariant-loop-place
invariant-loop-place l = IsMarkedBelow l.place l.committer l.commit l.changed l.fn.self l.self
