use Rattle.std.proofs.Common.{sym, ap, drop, length, ◌∙◌, arith}
use Rattle.sea_pieces.proofs.LatePieces.{none_passed, passed_late}
use Rattle.sea_pieces.proofs.late.Late.pass.Goals as goal

pub returns-then-self-items : goal.returns-then-self-items
returns-then-self-items c = passed_late c.self.inside.laid c.self.inside.pieces ∙ ap (drop 1) c.self.view_is

pub returns-else-self-items : goal.returns-else-self-items
returns-else-self-items c =
    sym c.self.view_is ∙ none_passed c.self.inside.laid c.self.inside.pieces (omega (arith, ap length c.items.ensures)) ∙ ap (drop 1) c.self.view_is
