use Rattle.sea_engine.proofs.Openings.{opens_one, not_shut}
use Rattle.sea_engine.proofs.law.opening_laws.Goals as goal

pub returns-clause-one : goal.returns-clause-one
returns-clause-one g c = opens_one g.T.Transactions.lays g.met.T.Transactions.one

pub returns-clause-not_shut : goal.returns-clause-not_shut
returns-clause-not_shut g c = not_shut g.T.Transactions.lays
