use Rattle.sea_pieces.proofs.Works.{none_laid, none_up_to}
use Rattle.sea_pieces.proofs.workspace.calls.WorkspaceTransactions.new.Goals as goal

pub new-requires-2 : goal.new-requires-2
new-requires-2 c = none_up_to (record { 0 = 0 }) c.new.result c.new.ensures

pub returns : goal.returns
returns c = record {
  objects = none_laid c.in_ok-store.store c.new.result c.in_ok-store.ensures.versions c.new.ensures;
  last = c.in_ok-store.ensures.last;
  clients = c.in_ok-store.ensures.closed.count;
  closed = c.in_ok-store.ensures.closed.closed;
}
