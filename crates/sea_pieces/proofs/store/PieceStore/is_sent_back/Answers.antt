use Rattle.sea_pieces.proofs.Stable.{none_did, some_current}
use Rattle.sea_pieces.proofs.store.PieceStore.is_sent_back.Goals as goal

pub returns-clause-current : goal.returns-clause-current
returns-clause-current c = some_current c.args.self.now c.args.client c.sent_back.result c.sent_back.ensures

pub returns-clause-did : goal.returns-clause-did
returns-clause-did c = none_did c.args.self.now c.args.client c.sent_back.result c.sent_back.ensures
