use Rattle.std.proofs.Common.{◌≡◌, drop}
use Rattle.sea_top.specs.Trail.{after_pieces}
use Rattle.sea_top.proofs.trail.lay_pieces.Given as goal

abbrev pub invariant-loop-piece : goal.invariant-loop-piece
invariant-loop-piece l =
    after_pieces (drop l.piece-index l.pieces) l.objects ≡ after_pieces l.pieces l.initial.objects
