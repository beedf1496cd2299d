use Rattle.sea_journal.proofs.Journals.{has_read}
use Rattle.sea_journal.proofs.journal.Journal.block.Goals as goal

pub returns-in_err-block-clause-log : goal.returns-in_err-block-clause-log
returns-in_err-block-clause-log g c = λ log has.
    let same = c.read.ensures in
    has_read log c.args.self.now c.read.new.self has same.read same.others.0 same.others.1 same.others.2

pub returns-then-ne-clause-log : goal.returns-then-ne-clause-log
returns-then-ne-clause-log g c = λ log has.
    let same = c.read.ensures in
    has_read log c.args.self.now c.read.new.self has same.read same.others.0 same.others.1 same.others.2

pub returns-clause-log : goal.returns-clause-log
returns-clause-log g c = λ log has.
    let same = c.read.ensures in
    has_read log c.args.self.now c.read.new.self has same.read same.others.0 same.others.1 same.others.2
