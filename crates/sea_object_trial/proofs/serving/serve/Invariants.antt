use Rattle.std.proofs.Common.{◌≡◌}
use Rattle.sea_object_trial.proofs.serving.serve.Given as goal

abbrev pub invariant-loop-client : goal.invariant-loop-client
invariant-loop-client l = l.history.clients ≡ l.clients
