use Rattle.std.proofs.Common.{ap, subst, ◌∙◌, arith}
use Rattle.sea_sets.specs.Board.{is_open_in, place_of}
use Rattle.sea_base.specs.declared.place.Commit.{Commit}
use Rattle.sea_pieces.specs.Noted.{AreUpTo}
use Rattle.sea_pieces.proofs.Committing.{later_up_to, none_noted}
use Rattle.sea_pieces.proofs.Marked.{pieces_up_to}
use Rattle.sea_pieces.proofs.Stable.{settled_versions}
use Rattle.sea_pieces.proofs.store.PieceStore.replay.Goals as goal

pub invariant_of-self : goal.invariant_of-self
invariant_of-self c =
    let s = c.settle.new.self in
    record {
      versions = pieces_up_to c.args.commit c.of.result s.committed
          (later_up_to s.committed s.last c.args.commit (omega (arith, ap (λ (k : Commit). k.0) c.settle.ensures.grows.last, c.requires.later))
          (subst (AreUpTo s.last) (settled_versions s c.in_ok-settle.ensures.settled) s.versions));
      notes = none_noted _ s.addresses c.args.commit s.board (λ client. ap (λ b. is_open_in (place_of b client)) c.settle.ensures.grows.board ∙ c.requires.closed client);
    }
