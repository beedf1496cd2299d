use Rattle.sea_record.proofs.EntryLists.{Read}
use Rattle.sea_record.proofs.list.read_list.Given as goal

abbrev pub invariant-loop : goal.invariant-loop
invariant-loop g l = Read g.T.Entry.fits g.T.Entry.spelled l.bytes l.counter l.items l.rest
