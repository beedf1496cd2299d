use Rattle.sea_segment.proofs.Victims.{Searched}
use Rattle.sea_segment.proofs.table.Table.victim.Given as goal

abbrev pub invariant-loop-at : goal.invariant-loop-at
invariant-loop-at l = Searched l.self l.before l.at l.fewest l.victim
