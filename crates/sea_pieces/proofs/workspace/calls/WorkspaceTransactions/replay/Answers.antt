use Rattle.std.proofs.Common.{length, ap, ◌∙◌}
use Rattle.sea_sets.specs.Board.{is_open_in, place_of}
use Rattle.sea_pieces.specs.Committed.{objects_in}
use Rattle.sea_pieces.specs.Store.{versions_of}
use Rattle.sea_pieces.proofs.Committing.{objects_with_pieces}
use Rattle.sea_pieces.proofs.Works.{pieces_found}
use Rattle.sea_pieces.proofs.workspace.calls.WorkspaceTransactions.replay.Goals as goal

pub returns : goal.returns
returns c =
    let pieces = c.in-Some.pieces in
    let old = c.args.self.now.store in
    record {
      laid = (
        pieces,
        pieces_found c.in_ok-pieces.field-0 pieces c.args.change.now c.in-Some.is c.in_ok-pieces.ensures.found,
        ap objects_in c.in_ok-replay.ensures.versions ∙ objects_with_pieces c.args.commit pieces (versions_of old),
      );
      last = c.in_ok-replay.ensures.last;
      clients = ap (λ b. length b.transactions.items) c.replay.ensures.board;
      closed = λ client. ap (λ b. is_open_in (place_of b client)) c.replay.ensures.board ∙ c.requires.closed client;
    }
