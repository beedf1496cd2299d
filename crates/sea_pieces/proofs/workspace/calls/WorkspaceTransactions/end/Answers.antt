use Rattle.std.proofs.Common.{subst}
use Rattle.sea_pieces.specs.Store.{Continues}
use Rattle.sea_pieces.proofs.Works.{others_stay}
use Rattle.sea_pieces.proofs.workspace.calls.WorkspaceTransactions.end.Goals as goal

pub returns-clause-keeps : goal.returns-clause-keeps
returns-clause-keeps c =
    others_stay c.args.client c.args.self.now _ (subst (λ s. Continues c.args.client s c.end.new.self) c.take.ensures.store c.end.ensures.continues) c.take.ensures.others
