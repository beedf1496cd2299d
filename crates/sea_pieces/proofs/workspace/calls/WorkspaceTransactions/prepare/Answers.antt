use Rattle.std.proofs.Common.{refl}
use Rattle.sea_pieces.proofs.Stable.{grown_continues}
use Rattle.sea_pieces.proofs.Works.{grown_stays, others_stay}
use Rattle.sea_pieces.proofs.workspace.calls.WorkspaceTransactions.prepare.Goals as goal

pub returns-clause-stays : goal.returns-clause-stays
returns-clause-stays c = grown_stays c.args.client c.args.self.now _ c.prepare.ensures.grows refl

pub returns-clause-keeps : goal.returns-clause-keeps
returns-clause-keeps c =
    let old = c.args.self.now in
    others_stay c.args.client old _ (grown_continues old.store c.prepare.new.self c.prepare.ensures.grows c.args.client) (λ k other. refl)
