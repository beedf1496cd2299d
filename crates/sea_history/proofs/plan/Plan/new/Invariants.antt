use Rattle.std.proofs.Common.{◌≡◌, []}
use Rattle.std.proofs.Math.ListN.{replicate}
use Rattle.sea_history.proofs.plan.Plan.new.Given as goal

abbrev pub invariant-loop : goal.invariant-loop
invariant-loop l = l.requests.items ≡ replicate l.counter []
