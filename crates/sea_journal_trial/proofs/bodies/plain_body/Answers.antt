use Rattle.std.proofs.Common.{refl, rules}
use Rattle.sea_journal_trial.proofs.Records.{plain_is}
use Rattle.sea_journal_trial.proofs.bodies.plain_body.Goals as goal

pub returns : goal.returns
returns c = λ commit next. plain_is _ refl c.new.ensures c.new-2.ensures c.new-3.ensures c.new-4.ensures (search rules) (search rules) commit next
