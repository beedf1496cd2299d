use Rattle.std.proofs.Common.{sym, ap, subst, ◌∙◌, arith}
use Rattle.sea_sets.specs.Board.{is_open_in, place_of}
use Rattle.sea_pieces.specs.Committed.{with_pieces}
use Rattle.sea_pieces.specs.Noted.{AreMarked, AreNoted}
use Rattle.sea_pieces.proofs.Marked.{commit_keeps, committed_noted, committed_up_to, ended_marked}
use Rattle.sea_pieces.proofs.Stable.{settled_versions}
use Rattle.sea_pieces.proofs.store.PieceStore.commit.Goals as goal

pub invariant_of-self : goal.invariant_of-self
invariant_of-self c =
    let old = c.args.self.now in
    let commit = c.args.commit in
    record {
      versions = committed_up_to old commit c.of.result c.requires.prepared.settled c.requires.later;
      notes = committed_noted c.args.client old commit c.of.result c.end.new.self c.mark.new.board c.requires.prepared.settled c.requires.later c.end.ensures
          (λ m notes. subst (λ ps. AreNoted (with_pieces commit ps m) old.addresses commit c.mark.new.board) (c.items.ensures ∙ sym c.of.ensures) (c.mark.ensures.noted m notes));
    }

pub returns-clause-versions : goal.returns-clause-versions
returns-clause-versions c =
    let old = c.args.self.now in
    let commit = c.args.commit in
    c.settle.ensures.grows.versions
    ∙ ap (λ ps. with_pieces commit ps old.committed) c.of.ensures
    ∙ ap (with_pieces commit c.args.change) (sym (settled_versions old c.requires.prepared.settled))

pub returns-clause-closed : goal.returns-clause-closed
returns-clause-closed c =
    ap (λ b. is_open_in (place_of b c.args.client)) c.settle.ensures.grows.board
    ∙ c.mark.ensures.marked.is_open c.args.client (λ none. absurd (omega (arith, none, c.requires.client)))
    ∙ c.end.ensures.closed

pub returns-clause-marks : goal.returns-clause-marks
returns-clause-marks c =
    subst (AreMarked c.args.client c.args.commit c.args.self.now.board) (sym c.settle.ensures.grows.board)
    (ended_marked c.args.client c.args.commit c.args.self.now.board c.end.new.self c.mark.new.board c.end.ensures c.mark.ensures.marked)

pub returns-clause-others : goal.returns-clause-others
returns-clause-others c =
    commit_keeps c.args.client c.args.self.now c.settle.new.self c.args.commit c.args.change c.requires.later (returns-clause-versions c) c.settle.ensures.grows.addresses (returns-clause-marks c)
