use Rattle.std.proofs.Common.{◌+◌, refl, sym, ap, subst, ◌∙◌, take}
use Rattle.sea_pieces.specs.Committed.{with_piece, with_pieces}
use Rattle.sea_pieces.specs.Noted.{AreMarked, AreNoted}
use Rattle.sea_pieces.proofs.Committing.{with_more}
use Rattle.sea_pieces.proofs.Marked.{marked_once, marked_then}
use Rattle.sea_pieces.proofs.Marking.{marked_noted}
use Rattle.sea_pieces.proofs.Meeting.{met_at}
use Rattle.sea_pieces.proofs.store.mark.Goals.{in-Some, in_default}
use Rattle.sea_pieces.proofs.store.mark.Goals as goal

pub loop-piece-preserved : goal.loop-piece-preserved
loop-piece-preserved c =
    let commit = c.args.commit in
    let items = c.args.change.now in
    let i = c.loop-piece.piece-index in
    let p = c.piece-item.result in
    let addresses = c.args.addresses.now in
    let inv = c.loop-piece.invariant in
    elim c.match-of.branch [
      | in-Some w ↦ record {
        noted = λ m notes.
            subst (λ b. AreNoted (with_pieces commit (take (i + 1) items) m) addresses commit b) (sym w.board-is)
            (subst (λ x. AreNoted x addresses commit w.mark.new.self) (ap (λ q. with_piece commit q (with_pieces commit (take i items) m)) c.piece-item.is ∙ with_more commit items i p m c.loop-piece-test.true)
            (marked_noted commit p (with_pieces commit (take i items) m) addresses c.of.ensures.apart w.in-Some.at.0 (sym w.in-Some.ensures.address) _ refl refl c.loop-piece.board w.mark.new.self w.mark.ensures (inv.noted m notes)));
        marked = subst (AreMarked 0 commit c.args.board.now) (sym w.board-is)
            (marked_then 0 commit c.args.board.now c.loop-piece.board w.mark.new.self inv.marked (marked_once commit _ refl c.loop-piece.board w.mark.new.self w.mark.ensures));
      }
      | in_default w ↦ absurd (met_at addresses items i p c.loop-piece-test.true c.piece-item.is c.requires.met (sym w.in_default.ensures.address))
    ]
