use Rattle.std.proofs.Common.{◌≡◌, length}
use Rattle.sea_pieces.proofs.workspace.calls.WorkspaceTransactions.new.Given as goal

abbrev pub invariant-loop : goal.invariant-loop
invariant-loop l = length l.transactions.items ≡ l.counter
