use Rattle.sea_sets.specs.Board.{HasClient, IsOpen}
use Rattle.sea_sets.proofs.tests.each_client_notes_5000_reads.Given as goal

abbrev pub invariant-loop-at : goal.invariant-loop-at
invariant-loop-at g l = HasClient l.board 16 × IsOpen l.board 16
