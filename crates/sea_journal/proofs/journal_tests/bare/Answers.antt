use Rattle.std.proofs.Common.{refl, rules}
use Rattle.sea_journal.proofs.Trials.{nodes_is}
use Rattle.sea_journal.proofs.journal_tests.bare.Goals as goal

pub returns : goal.returns
returns c = nodes_is _ refl c.new.ensures c.new-2.ensures c.new-3.ensures c.new-4.ensures (search rules)
