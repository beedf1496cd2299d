use Rattle.sea_sets.specs.Board.{HasClient, IsOpen}
use Rattle.sea_sets.proofs.tests.a_read_is_overtaken_where_its_version_moved.Given as goal

abbrev pub invariant-loop-commit : goal.invariant-loop-commit
invariant-loop-commit g l = HasClient l.board 1 × IsOpen l.board 1

abbrev pub invariant-loop : goal.invariant-loop
invariant-loop g l = HasClient l.board 1
