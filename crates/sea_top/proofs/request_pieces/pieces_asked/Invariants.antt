use Rattle.std.proofs.Common.{◌≡◌, take}
use Rattle.sea_top.specs.Pieces.{pieces_asked}
use Rattle.sea_top.proofs.request_pieces.pieces_asked.Given as goal

abbrev pub invariant-loop-op : goal.invariant-loop-op
invariant-loop-op l = l.pieces ≡ pieces_asked (take l.op-index l.ops)
