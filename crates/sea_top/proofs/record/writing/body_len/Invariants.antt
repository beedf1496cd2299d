use Rattle.std.proofs.Common.{◌≡◌, length, take}
use Rattle.sea_top.specs.Record.{body_bytes}
use Rattle.sea_top.proofs.record.writing.body_len.Given as goal

abbrev pub invariant-loop-piece : goal.invariant-loop-piece
invariant-loop-piece l = l.sum ≡ length (body_bytes (take l.piece-index l.pieces))
