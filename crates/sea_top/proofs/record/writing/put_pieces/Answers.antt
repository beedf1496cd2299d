use Rattle.std.proofs.Common.{◌+◌, ◌++◌, length, take, sym, ap, subst, ◌∙◌, List, ℕ, arith}
use Rattle.std.proofs.lemmas.List.{take_all}
use Rattle.sea_top.specs.Record.{body_bytes, piece_bytes}
use Rattle.sea_top.specs.declared.record.Piece.{Piece}
use Rattle.sea_top.proofs.Overlays.{Overlays, Overlays-then, Overlays-nothing}
use Rattle.sea_top.proofs.RecordLengths.{length-body_front, length-body_more, body_bytes-more, body_bytes-nil}
use Rattle.sea_top.proofs.record.writing.put_pieces.Goals as goal

pub put_piece-at-requires-clause-room : goal.put_piece-at-requires-clause-room
put_piece-at-requires-clause-room c =
    omega (arith, c.loop-piece.invariant.at_end, length-body_front c.args.pieces.now (c.loop-piece.piece-index + 1), length-body_more c.args.pieces.now c.loop-piece.piece-index c.piece-item.result c.loop-piece-test.true c.piece-item.is)

pub loop-piece-init : goal.loop-piece-init
loop-piece-init c = record {
  at_end = omega (arith, ap length body_bytes-nil);
  written = subst (λ (x : List ℕ). Overlays 96 x c.args.buffer.now c.args.buffer.now) (sym body_bytes-nil) (Overlays-nothing 96 c.args.buffer.now);
}

pub loop-piece-preserved : goal.loop-piece-preserved
loop-piece-preserved c =
    let pieces = c.args.pieces.now in
    let i = c.loop-piece.piece-index in
    let p = c.piece-item.result in
    let len = length-body_more pieces i p c.loop-piece-test.true c.piece-item.is in
    let front = length-body_front pieces (i + 1) in
    let more = body_bytes-more pieces i p c.loop-piece-test.true ∙ ap (λ (q : Piece). body_bytes (take i pieces) ++ piece_bytes q) (sym c.piece-item.is) in
    record {
      at_end = omega (arith, c.loop-piece.invariant.at_end, c.put_piece-at.ensures.end, len);
      written = subst (λ (x : List ℕ). Overlays 96 x c.args.buffer.now c.put_piece-at.new.buffer) (sym more) (Overlays-then 96 c.loop-piece.at (body_bytes (take i pieces)) (piece_bytes p) c.args.buffer.now c.loop-piece.buffer c.put_piece-at.new.buffer c.loop-piece.invariant.at_end (omega (arith, c.loop-piece.invariant.at_end, len, front)) c.loop-piece.invariant.written c.put_piece-at.ensures.written);
    }

pub returns : goal.returns
returns c = subst (λ (ps : List Piece). Overlays 96 (body_bytes ps) c.args.buffer.now c.loop-piece.buffer) (take_all c.loop-piece.piece-index c.args.pieces.now c.loop-piece-test.false) c.loop-piece.invariant.written
