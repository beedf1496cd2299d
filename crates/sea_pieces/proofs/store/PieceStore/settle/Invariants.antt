use Rattle.std.proofs.Common.{◌≡◌, drop}
use Rattle.sea_pieces.specs.Store.{Grows}
use Rattle.sea_pieces.proofs.store.PieceStore.settle.Given as goal

abbrev pub invariant-loop : goal.invariant-loop
invariant-loop l = record {
  grows : Grows l.fn.self l.self;
  addresses : l.self.addresses ≡ l.fn.self.addresses;
  late : l.self.late ≡ drop l.counter l.fn.self.late;
}
