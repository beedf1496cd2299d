use Rattle.std.proofs.Common.{ap, ◌∙◌}
use Rattle.std.specs.Prelude.{slice_get}
use Rattle.sea_pieces.proofs.LatePieces.{first_late, lent_at}
use Rattle.sea_pieces.proofs.late.Late.first.Goals as goal

pub returns-clause-first : goal.returns-clause-first
returns-clause-first c =
    lent_at c.get.result c.items.result.now c.self.inside.laid c.get.ensures.lookup.1 c.get.ensures.lookup.3 ∙ ap (λ ps. slice_get ps c.self.inside.laid) c.items.ensures ∙ first_late c.self.inside.laid c.self.inside.pieces ∙ ap (λ ps. slice_get ps 0) c.self.view_is
