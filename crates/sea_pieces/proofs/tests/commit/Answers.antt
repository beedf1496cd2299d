use Rattle.std.proofs.Common.{subst, sym}
use Rattle.sea_sets.specs.Versions.{AllStand}
use Rattle.sea_pieces.proofs.tests.commit.Goals as goal

pub commit-requires-clause-stands : goal.commit-requires-clause-stands
commit-requires-clause-stands c = subst (λ t. AllStand t.noted) (sym c.prepare.ensures.stays.transaction) c.in-None.ensures
