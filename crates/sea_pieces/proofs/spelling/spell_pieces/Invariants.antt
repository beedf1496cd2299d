use Rattle.std.proofs.Common.{◌≡◌, take}
use Rattle.sea_pieces.specs.Spelling.{spelling}
use Rattle.sea_pieces.proofs.spelling.spell_pieces.Given as goal

abbrev pub invariant-loop-piece : goal.invariant-loop-piece
invariant-loop-piece l = l.bytes.items ≡ spelling (take l.piece-index l.pieces)
