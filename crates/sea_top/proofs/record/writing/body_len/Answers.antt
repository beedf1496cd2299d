use Rattle.std.proofs.Common.{◌+◌, arith, ap, sym, length}
use Rattle.sea_top.proofs.RecordLengths.{length-body_front, length-body_more, body_bytes-nil}
use Rattle.sea_top.proofs.record.writing.body_len.Goals as goal

pub loop-piece-init : goal.loop-piece-init
loop-piece-init c = sym (ap length body_bytes-nil)

pub piece_len-sum-requires : goal.piece_len-sum-requires
piece_len-sum-requires c =
    omega (arith, length-body_front c.args.pieces.now (c.loop-piece.piece-index + 1), length-body_more c.args.pieces.now c.loop-piece.piece-index c.piece-item.result c.loop-piece-test.true c.piece-item.is)

pub overflow_add-sum : goal.overflow_add-sum
overflow_add-sum c =
    omega (arith, length-body_front c.args.pieces.now (c.loop-piece.piece-index + 1), length-body_more c.args.pieces.now c.loop-piece.piece-index c.piece-item.result c.loop-piece-test.true c.piece-item.is)

pub loop-piece-preserved : goal.loop-piece-preserved
loop-piece-preserved c =
    omega (arith, length-body_more c.args.pieces.now c.loop-piece.piece-index c.piece-item.result c.loop-piece-test.true c.piece-item.is)
