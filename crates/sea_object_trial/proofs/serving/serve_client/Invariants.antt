use Rattle.std.proofs.Common.{◌≡◌}
use Rattle.sea_object_trial.proofs.serving.serve_client.Given as goal

abbrev pub invariant-loop-number : goal.invariant-loop-number
invariant-loop-number l = l.history.clients ≡ l.fn.history.clients
