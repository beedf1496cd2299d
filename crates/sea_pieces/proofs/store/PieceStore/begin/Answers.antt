use Rattle.sea_pieces.proofs.Stable.{board_kept}
use Rattle.sea_pieces.proofs.store.PieceStore.begin.Goals as goal

pub returns-clause-others : goal.returns-clause-others
returns-clause-others c = board_kept c.args.client c.args.self.now c.begin.new.self c.begin.ensures.others
