use Rattle.std.proofs.Common.{refl, ap, ◌∙◌, length, rules}
use Rattle.sea_journal.proofs.Trials.{plain_is}
use Rattle.sea_journal.proofs.journal_tests.plain.Goals as goal

pub returns : goal.returns
returns c = plain_is _ refl c.new.ensures c.new-2.ensures c.new-3.ensures c.new-4.ensures (search rules)
