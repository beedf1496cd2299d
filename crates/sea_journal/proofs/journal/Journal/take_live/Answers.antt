use Rattle.std.proofs.Common.{refl, sym, subst}
use Rattle.sea_segment.specs.Table.{live_of}
use Rattle.sea_journal.specs.Rolls.{InTable}
use Rattle.sea_journal.proofs.Journals.{with_table}
use Rattle.sea_journal.proofs.Tables.{live_in_table}
use Rattle.sea_journal.proofs.journal.Journal.take_live.Goals as goal

pub returns-clause-log : goal.returns-clause-log
returns-clause-log g c = λ log has.
    let j = c.args.self.now in
    with_table log j _ has refl refl refl (subst (InTable log) (sym c.take_live.ensures) (live_in_table log j.table c.args.segment _ c.requires.within has.table))
