use Rattle.std.proofs.Common.{◌*◌, length}
use Rattle.sea_journal.proofs.Tears.{by_sync, by_write, InRange-then}
use Rattle.sea_journal.proofs.put.put_blocks.Goals as goal

pub returns-in_err-write-clause-changes : goal.returns-in_err-write-clause-changes
returns-in_err-write-clause-changes g c =
    let w = c.write.ensures in
    by_write (4096 * c.args.at.0) (length c.args.bytes.now) c.args.device.now c.write.new.self w.size w.told w.within w.images w.time

pub returns-clause-changes : goal.returns-clause-changes
returns-clause-changes g c =
    let at = 4096 * c.args.at.0 in
    let count = length c.args.bytes.now in
    let w = c.write.ensures in
    let s = c.sync.ensures in
    let law = g.met.D.Device in
    InRange-then at count c.args.device.now c.write.new.self c.sync.new.self
    (by_write at count c.args.device.now c.write.new.self w.size w.told w.within w.images w.time)
    (by_sync at count c.write.new.self c.sync.new.self (law.whole c.write.new.self) (law.images_whole c.write.new.self) s.size s.contents s.told s.images s.time)
