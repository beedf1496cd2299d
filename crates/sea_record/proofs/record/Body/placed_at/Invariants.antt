use Rattle.std.proofs.Common.{◌≡◌, map, take}
use Rattle.sea_record.proofs.record.Body.placed_at.Given as goal

abbrev pub invariant-loop-placed : goal.invariant-loop-placed
invariant-loop-placed l = l.at.items ≡ map (λ p. p.at.0) (take l.placed-index l.placed-items)
