use Rattle.std.proofs.Common.{take}
use Rattle.sea_pieces.specs.Committed.{VersionMap, with_pieces}
use Rattle.sea_pieces.specs.Noted.{AreMarked, AreNoted}
use Rattle.sea_pieces.proofs.store.mark.Given as goal

abbrev pub invariant-loop-piece : goal.invariant-loop-piece
invariant-loop-piece l = record {
  noted : (m : VersionMap) → AreNoted m l.addresses l.commit l.fn.board → AreNoted (with_pieces l.commit (take l.piece-index l.change) m) l.addresses l.commit l.board;
  marked : AreMarked 0 l.commit l.fn.board l.board;
}
