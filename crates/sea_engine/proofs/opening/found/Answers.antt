use Rattle.std.proofs.Common.{◌≡◌, ◌∙◌}
use Rattle.sea_journal.proofs.Calls.{IfSome-at}
use Rattle.sea_engine.specs.Reading.{IsRead}
use Rattle.sea_engine.proofs.opening.found.Goals as goal

pub returns-clause-opens : goal.returns-clause-opens
returns-clause-opens g c = λ image told.
    let trail = c.in_ok-trail.trail in
    let synced = c.in_ok-trail.ensures.synced in
    let now = synced.0.contents ∙ told in
    let read : IsRead g.T.Transactions.lays image trail (g.T.Transactions.state c.in_ok-trail.transactions) =
    IfSome-at (λ b. IsRead g.T.Transactions.lays b trail (g.T.Transactions.state c.in_ok-trail.transactions)) image told c.in_ok-trail.ensures.opens in (
      read,
      record {
        told = now;
        trail = read.is_trail;
        alone = λ left may. IfSome-at (λ b. left ≡ b) image now (synced.1 left may);
        in_table = c.in_ok-table.ensures.in_table image read.is_trail;
      },
      c.in_ok-table.ensures.no_other image read.is_trail,
    )
