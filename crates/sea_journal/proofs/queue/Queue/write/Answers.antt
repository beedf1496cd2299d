use Rattle.std.proofs.Common.{◌*◌, ◌-◌, length, arith}
use Rattle.sea_trail.specs.Trail.{segment_end}
use Rattle.sea_journal.proofs.Tears.{InRange-wider}
use Rattle.sea_journal.proofs.queue.Queue.write.Goals as goal

pub returns-in_err-put_blocks-clause-changes : goal.returns-in_err-put_blocks-clause-changes
returns-in_err-put_blocks-clause-changes g c =
    let q = c.args.self.now in
    InRange-wider (4096 * q.start.0) (length c.batch.result.now) (4096 * q.start.0) (4096 * (segment_end q.active - q.start.0)) c.args.device.now c.put_blocks.new.device (omega arith) (omega (arith, c.batch.ensures.within)) c.put_blocks.ensures.changes

pub returns-clause-changes : goal.returns-clause-changes
returns-clause-changes g c =
    let q = c.args.self.now in
    InRange-wider (4096 * q.start.0) (length c.batch.result.now) (4096 * q.start.0) (4096 * (segment_end q.active - q.start.0)) c.args.device.now c.put_blocks.new.device (omega arith) (omega (arith, c.batch.ensures.within)) c.put_blocks.ensures.changes
