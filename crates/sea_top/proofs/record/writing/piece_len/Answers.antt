use Rattle.std.proofs.Common.{arith, ap, length}
use Rattle.sea_top.proofs.RecordLengths.{length-piece_bytes}
use Rattle.sea_top.proofs.record.writing.piece_len.Goals as goal

pub overflow_cast-result : goal.overflow_cast-result
overflow_cast-result c =
    omega (arith, length-piece_bytes c.args.piece.now, ap length c.bytes.ensures.bytes, c.len.ensures.value)

pub returns : goal.returns
returns c = omega (arith, length-piece_bytes c.args.piece.now, ap length c.bytes.ensures.bytes, c.len.ensures.value)
