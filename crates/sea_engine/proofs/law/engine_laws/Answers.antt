use Rattle.sea_engine.proofs.Crashes.{anchor_opens, clear_opens}
use Rattle.sea_engine.proofs.law.engine_laws.Goals as goal

pub returns-clause-prefix : goal.returns-clause-prefix
returns-clause-prefix g c = λ engine found log image has. clear_opens g.D.Device g.T.Transactions engine found log has image

pub returns-clause-anchor : goal.returns-clause-anchor
returns-clause-anchor g c = λ engine found log has. anchor_opens g.D.Device g.T.Transactions engine found log has
