use Rattle.sea_ops.proofs.Stable.{stable, stably_refused}
use Rattle.sea_ops.proofs.law.transaction_laws.Goals as goal

pub returns-clause-done : goal.returns-clause-done
returns-clause-done c = stable

pub returns-clause-refused : goal.returns-clause-refused
returns-clause-refused c = stably_refused
