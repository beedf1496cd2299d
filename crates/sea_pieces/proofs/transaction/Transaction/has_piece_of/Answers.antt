use Rattle.std.specs.Cmp.Lexicographic.{other_text}
use Rattle.sea_pieces.proofs.Seen.{elsewhere_more}
use Rattle.sea_pieces.proofs.transaction.Transaction.has_piece_of.Goals as goal

pub loop-piece-preserved : goal.loop-piece-preserved
loop-piece-preserved c =
    elsewhere_more c.items-piece-items.result.now c.loop-piece.piece-index c.piece-item.result c.args.name.now c.loop-piece-test.true c.piece-item.is (other_text _ _ c.if-eq.ensures) c.loop-piece.invariant
