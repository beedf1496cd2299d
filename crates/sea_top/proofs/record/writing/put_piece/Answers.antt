use Rattle.std.proofs.Common.{arith, ap, length}
use Rattle.sea_top.proofs.RecordLengths.{length-piece_bytes}
use Rattle.sea_top.proofs.PieceWritten.{fields_written, piece_written}
use Rattle.sea_top.proofs.record.writing.put_piece.Goals as goal

pub put_bytes-requires : goal.put_bytes-requires
put_bytes-requires c = omega (arith, length-piece_bytes c.args.piece.now)

pub put_bytes-requires-2 : goal.put_bytes-requires-2
put_bytes-requires-2 c = omega (arith, length-piece_bytes c.args.piece.now, ap length c.bytes-name.ensures.bytes)

pub put_u32-requires : goal.put_u32-requires
put_u32-requires c = omega (arith, length-piece_bytes c.args.piece.now, ap length c.bytes-name.ensures.bytes)

pub put_u32-requires-2 : goal.put_u32-requires-2
put_u32-requires-2 c = omega (arith, length-piece_bytes c.args.piece.now, ap length c.bytes-name.ensures.bytes)

pub put_bytes-requires-3 : goal.put_bytes-requires-3
put_bytes-requires-3 c =
    omega (arith, length-piece_bytes c.args.piece.now, ap length c.bytes-name.ensures.bytes, ap length c.bytes-bytes.ensures)

pub returns-clause-written : goal.returns-clause-written
returns-clause-written c =
    let len = length-piece_bytes c.args.piece.now in
    let name = ap length c.bytes-name.ensures.bytes in
    let bytes = ap length c.bytes-bytes.ensures in
    piece_written c.args.at c.args.piece.now c.bytes-name.result.now c.bytes-bytes.result.now c.args.buffer.now c.put_bytes-3.new.bytes c.bytes-name.ensures.bytes c.bytes-bytes.ensures (
    fields_written c.args.at c.bytes-name.result.now c.bytes-bytes.result.now c.args.piece.now.offset c.args.buffer.now c.put_bytes.new.bytes c.put_bytes-2.new.bytes c.put_u32.new.bytes c.put_u32-2.new.bytes c.put_bytes-3.new.bytes
    (omega (arith, c.bytes-name.ensures.name)) (omega arith) c.put_bytes.ensures c.put_bytes-2.ensures c.put_u32.ensures c.put_u32-2.ensures c.put_bytes-3.ensures)

pub returns-clause-end : goal.returns-clause-end
returns-clause-end c =
    omega (arith, length-piece_bytes c.args.piece.now, ap length c.bytes-name.ensures.bytes, ap length c.bytes-bytes.ensures)
