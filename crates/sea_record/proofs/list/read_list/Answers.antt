use Rattle.std.proofs.Common.{arith}
use Rattle.std.proofs.lemmas.List.{take_rest}
use Rattle.sea_record.proofs.EntryBytes.{front_fits}
use Rattle.sea_record.specs.Entries.{counted}
use Rattle.sea_record.proofs.EntryLists.{length-counted, read_nothing, read_more, read_whole, read_none}
use Rattle.sea_record.proofs.list.read_list.Goals as goal

pub returns-then-bytes-lt-COUNT_BYTES : goal.returns-then-bytes-lt-COUNT_BYTES
returns-then-bytes-lt-COUNT_BYTES g c = λ items rest found.
    omega (arith, front_fits c.args.bytes.now (counted g.T.Entry.spelled items) rest found.is, length-counted g.T.Entry.spelled items)

pub loop-init : goal.loop-init
loop-init g c =
    read_nothing g.T.Entry.fits g.T.Entry.spelled c.args.bytes.now _ c.new-items.result c.new-items.ensures (take_rest c.args.bytes.now 4)

pub returns-in_default : goal.returns-in_default
returns-in_default g c = λ items rest found.
    let none = rw c.in_default.is at c.in_ok-item.ensures in
    read_none g.T.Entry.fits g.T.Entry.spelled g.met.T.Entry.same c.args.bytes.now c.loop.rest.now c.u32_at-end.result c.loop.counter c.loop.items c.loop.invariant c.loop-test.true (omega arith) c.u32_at-end.ensures.spelled none items rest found

pub loop-preserved : goal.loop-preserved
loop-preserved g c =
    let found = rw c.in-Some.is at c.in_ok-item.ensures in
    read_more g.T.Entry.fits g.T.Entry.spelled c.args.bytes.now c.loop.rest.now c.in-Some.behind.now c.loop.counter c.loop.items c.push.new.self c.in-Some.item c.in_ok-push.ensures.ok c.loop.invariant found

pub returns : goal.returns
returns g c =
    read_whole g.T.Entry.fits g.T.Entry.spelled c.args.bytes.now c.loop.rest.now c.u32_at-end.result c.loop.counter c.loop.items c.loop.invariant (omega arith) (omega arith) c.u32_at-end.ensures.spelled
