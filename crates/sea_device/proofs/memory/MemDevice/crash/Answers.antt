use Rattle.std.proofs.Common.{sym, subst}
use Rattle.sea_device.specs.Laws.{left_image}
use Rattle.sea_device.specs.Past.{MayLeaveOf}
use Rattle.sea_device.proofs.Crashes.{stable_left}
use Rattle.sea_device.proofs.memory.MemDevice.crash.Goals as goal

pub loop-at-init : goal.loop-at-init
loop-at-init c =
    let self = c.args.self.now in
    record {
      laid = c.in_ok-bytes.ensures;
      left = subst (MayLeaveOf self.past c.args.moment) (sym c.in_ok-bytes.ensures) (stable_left self.blocks self.past self.size c.args.moment);
    }

pub holding-requires : goal.holding-requires
holding-requires c =
    let self = c.args.self.now in
    (left_image self.blocks self.past self.size c.args.moment c.loop-at.bytes.items c.loop-at.invariant.left).size
