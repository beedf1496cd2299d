use Rattle.std.proofs.Common.{length}
use Rattle.sea_base.specs.Field.{big_endian}
use Rattle.sea_record.proofs.EntryLists.{pushed_none, pushed_more, pushed_all}
use Rattle.sea_record.proofs.list.push_list.Goals as goal

pub loop-item-init : goal.loop-item-init
loop-item-init g c =
    pushed_none g.T.Entry.spelled c.args.bytes.now.items (big_endian 4 (length c.args.items.now)) c.push_u32.new.bytes.items c.in_ok-push_u32.ensures

pub loop-item-preserved : goal.loop-item-preserved
loop-item-preserved g c =
    pushed_more g.T.Entry.spelled c.args.bytes.now.items (big_endian 4 (length c.args.items.now)) c.loop-item.bytes.items c.push.new.bytes.items c.args.items.now c.loop-item.item-index c.item-item.result
    c.loop-item-test.true c.item-item.is c.loop-item.invariant c.in_ok-push.ensures

pub returns : goal.returns
returns g c =
    pushed_all g.T.Entry.spelled c.args.bytes.now.items (big_endian 4 (length c.args.items.now)) c.loop-item.bytes.items c.args.items.now c.loop-item.item-index c.loop-item-test.false c.loop-item.invariant
