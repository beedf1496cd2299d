use Rattle.std.proofs.Common.{◌≡◌, map, take}
use Rattle.sea_record.proofs.record.Body.dropped_at.Given as goal

abbrev pub invariant-loop-dropped : goal.invariant-loop-dropped
invariant-loop-dropped l = l.at.items ≡ map (λ p. p.0) (take l.dropped-index l.dropped-items)
