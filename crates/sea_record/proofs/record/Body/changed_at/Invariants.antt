use Rattle.std.proofs.Common.{◌≡◌, map, take}
use Rattle.sea_record.proofs.record.Body.changed_at.Given as goal

abbrev pub invariant-loop-change : goal.invariant-loop-change
invariant-loop-change l = l.at.items ≡ map (λ p. p.at.0) (take l.change-index l.change-items)
