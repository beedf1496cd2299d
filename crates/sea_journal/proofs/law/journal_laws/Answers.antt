use Rattle.sea_journal.proofs.Openings.{clear_has_prefix}
use Rattle.sea_journal.proofs.Pasts.{anchor_is_clear}
use Rattle.sea_journal.proofs.law.journal_laws.Goals as goal

pub returns-clause-prefix : goal.returns-clause-prefix
returns-clause-prefix c = clear_has_prefix

pub returns-clause-anchor : goal.returns-clause-anchor
returns-clause-anchor c = anchor_is_clear
