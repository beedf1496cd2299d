use Rattle.std.proofs.Common.{◌≡◌, ◌++◌, length}
use Rattle.std.specs.List.{AllByRecursion}
use Rattle.sea_pieces.specs.Spelling.{IsPiece, spelling}
use Rattle.sea_pieces.proofs.spelling.read_pieces.Given as goal

abbrev pub invariant-loop-rest : goal.invariant-loop-rest
invariant-loop-rest l = record {
  all : AllByRecursion IsPiece l.pieces;
  read : l.bytes ≡ spelling l.pieces ++ l.rest;
}

abbrev pub decreases-loop-rest : goal.decreases-loop-rest
decreases-loop-rest l = length l.rest
