use Rattle.std.proofs.Common.{ap, subst, sym, ◌∙◌}
use Rattle.sea_pieces.specs.Committed.{objects_in}
use Rattle.sea_pieces.specs.Laying.{after_pieces}
use Rattle.sea_pieces.specs.Noted.{AreMarked}
use Rattle.sea_pieces.specs.Store.{KeepsOthers, objects_of_store, versions_of}
use Rattle.sea_pieces.specs.WorkLaws.{after_laid}
use Rattle.sea_pieces.proofs.Committing.{objects_with_pieces}
use Rattle.sea_pieces.proofs.Works.{others_move}
use Rattle.sea_pieces.proofs.workspace.calls.WorkspaceTransactions.commit.Goals as goal

pub returns-clause-objects : goal.returns-clause-objects
returns-clause-objects c = λ ops did.
    let old = c.args.self.now in
    ap objects_in c.commit.ensures.versions
    ∙ objects_with_pieces c.args.commit c.into_parts-items.result.1 (versions_of c.take.new.self.store)
    ∙ ap (after_pieces c.into_parts-items.result.1) (ap objects_of_store c.take.ensures.store)
    ∙ ap (λ ps. after_pieces ps (objects_of_store old.store)) (c.into_parts-items.ensures.pieces ∙ ap (λ d. d.pieces) c.take.ensures.taken)
    ∙ sym (after_laid old c.args.client ops c.requires.stands did)

pub returns-clause-commits : goal.returns-clause-commits
returns-clause-commits c =
    let old = c.args.self.now in
    let new = c.commit.new.self in
    let client = c.args.client in
    let marks = subst (λ s. AreMarked client c.args.commit s.board new.board) c.take.ensures.store c.commit.ensures.marks in
    record {
      last = c.commit.ensures.last;
      clients = marks.clients;
      closed = c.commit.ensures.closed;
      others = others_move c.args.commit client old _ marks (subst (λ s. KeepsOthers client s new) c.take.ensures.store c.commit.ensures.others) c.take.ensures.others;
    }
