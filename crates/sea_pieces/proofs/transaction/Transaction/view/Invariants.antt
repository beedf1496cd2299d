use Rattle.std.proofs.Common.{◌≡◌, take}
use Rattle.std.specs.Prelude.{option_map}
use Rattle.std.specs.FinMap.{get}
use Rattle.sea_pieces.specs.Committed.{objects_in, plain_object}
use Rattle.sea_pieces.specs.Laying.{after_pieces}
use Rattle.sea_pieces.proofs.transaction.Transaction.view.Given as goal

abbrev pub invariant-loop-piece : goal.invariant-loop-piece
invariant-loop-piece l =
    option_map plain_object l.found ≡ get (after_pieces (take l.piece-index l.piece-items) (objects_in l.committed)) l.name
