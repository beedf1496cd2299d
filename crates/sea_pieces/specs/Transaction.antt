-- What a transaction has done.
use Rattle.std.specs.Prelude.{◌≡◌, List}
use Rattle.std.specs.List.{AllByRecursion}
use Rattle.sea_object.specs.declared.op.Op.{Op}
use Rattle.sea_object.specs.declared.reply.Item.{Item}
use Rattle.sea_object.specs.Answer.{items}
use Rattle.sea_object.specs.Objects.{ObjectMap}
use Rattle.sea_object.specs.Op.{IsWithinLimits}
use Rattle.sea_pieces.specs.declared.piece.Piece.{Piece}
use Rattle.sea_pieces.specs.Laying.{IsServed, pieces_of}
use Rattle.sea_pieces.specs.Spelling.{IsPiece}

-- the items of the operations that were done, and the pieces that a commit lays over the objects
pub record Done : Type 0 where
  pub items : List Item
  pub pieces : List Piece

-- On these objects the operations give the items of the transaction, and its pieces are theirs.
pub record Did (ops : List Op) (done : Done) (objects : ObjectMap) : Type 0 where
  pub served : AllByRecursion IsServed ops
  pub within : AllByRecursion IsWithinLimits ops
  pub answered : done.items ≡ items ops objects
  pub changed : done.pieces ≡ pieces_of ops
  pub fit : AllByRecursion IsPiece done.pieces
