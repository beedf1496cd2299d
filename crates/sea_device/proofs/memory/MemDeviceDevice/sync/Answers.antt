use Rattle.std.proofs.Common.{sym, ◌∙◌}
use Rattle.sea_device.specs.Moments.{Synced}
use Rattle.sea_device.proofs.Grows.{new_bytes, sync_keeps, goes_on_elapses}
use Rattle.sea_device.proofs.memory.MemDeviceDevice.sync.Goals as goal

pub invariant_of-self-2-clause-current : goal.invariant_of-self-2-clause-current
invariant_of-self-2-clause-current c =
    let self = c.args.self.now in
    self.current ∙ sym (new_bytes self.past c.sync.new.self Synced c.sync.ensures.goes_on)

pub returns-clause-images : goal.returns-clause-images
returns-clause-images c =
    let self = c.args.self.now in
    sync_keeps self.blocks self.past c.sync.new.self self.size c.sync.ensures.goes_on

pub returns-clause-time : goal.returns-clause-time
returns-clause-time c = goes_on_elapses c.args.self.now.past c.sync.new.self Synced c.sync.ensures.goes_on
