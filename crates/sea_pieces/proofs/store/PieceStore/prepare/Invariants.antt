use Rattle.std.proofs.Common.{◌≡◌, [], take}
use Rattle.sea_pieces.specs.Met.{AreMet}
use Rattle.sea_pieces.specs.Store.{Grows}
use Rattle.sea_pieces.proofs.store.PieceStore.prepare.Given as goal

abbrev pub invariant-loop-piece : goal.invariant-loop-piece
invariant-loop-piece l = record {
  grows : Grows l.fn.self l.self;
  settled : l.self.late ≡ [];
  met : AreMet (take l.piece-index l.change) l.self.addresses;
}
