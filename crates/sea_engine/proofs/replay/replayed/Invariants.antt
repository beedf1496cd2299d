use Rattle.std.proofs.Common.{◌≡◌, ℕ, ◌≤◌, take, drop}
use Rattle.std.specs.FinMap as map
use Rattle.sea_transactions.specs.State.{IsClosed}
use Rattle.sea_engine.specs.Opens.{AreRising, Makes}
use Rattle.sea_engine.specs.Replay.{last_number}
use Rattle.sea_engine.proofs.replay.replayed.Given as goal

abbrev pub invariant-loop-record : goal.invariant-loop-record
invariant-loop-record g l = record {
  made : Makes g.T.Transactions.lays (take l.record-index l.records) map.empty (g.T.Transactions.state l.transactions).objects;
  clients : (g.T.Transactions.state l.transactions).clients ≡ l.clients;
  last : (g.T.Transactions.state l.transactions).last.0 ≤ last_number 0 (take l.record-index l.records);
  closed : (client : ℕ) → IsClosed (g.T.Transactions.state l.transactions) client;
  rising : AreRising (g.T.Transactions.state l.transactions).last.0 (drop l.record-index l.records);
}
