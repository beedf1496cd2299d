use Rattle.std.proofs.Common.{refl, rules}
use Rattle.sea_journal_trial.proofs.Placings.{client_is}
use Rattle.sea_journal_trial.proofs.speed.placed_body.Goals as goal

pub returns : goal.returns
returns c = client_is c.args.commit _ refl c.new.ensures c.new-2.ensures c.new-3.ensures (search rules) c.in_ok-placings.ensures
