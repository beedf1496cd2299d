use Rattle.std.proofs.Common.{◌≡◌, take}
use Rattle.std.specs.FinMap.{get}
use Rattle.sea_object.specs.Objects.{ObjectMap}
use Rattle.sea_pieces.specs.Laying.{after_pieces}
use Rattle.sea_pieces.proofs.transaction.Transaction.has_piece_of.Given as goal

abbrev pub invariant-loop-piece : goal.invariant-loop-piece
invariant-loop-piece l =
    (objects : ObjectMap) → get (after_pieces (take l.piece-index l.piece-items) objects) l.name ≡ get objects l.name
