use Rattle.std.proofs.Common.{◌≡◌, ◌+◌, length, take}
use Rattle.sea_top.specs.Record.{body_bytes}
use Rattle.sea_top.proofs.Overlays.{Overlays}
use Rattle.sea_top.proofs.record.writing.put_pieces.Given as goal

abbrev pub invariant-loop-piece : goal.invariant-loop-piece
invariant-loop-piece l =
    record {
      at_end : l.at ≡ 96 + length (body_bytes (take l.piece-index l.pieces));
      written : Overlays 96 (body_bytes (take l.piece-index l.pieces)) l.fn.buffer l.buffer;
    }
