use Rattle.sea_pieces.proofs.Shared.{did_laid}
use Rattle.sea_pieces.proofs.transaction.Transaction.changes.Goals as goal

pub returns-clause-laid : goal.returns-clause-laid
returns-clause-laid c = λ ops objects did. did_laid ops c.args.self.now objects did
