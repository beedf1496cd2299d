use Rattle.std.proofs.Common.{◌≡◌, ◌+◌, ◌-◌, ◌≤◌, IfSome, length}
use Rattle.sea_device.specs.Calls.{OnlyRead}
use Rattle.sea_top.proofs.TrailSoFar.{HasRead}
use Rattle.sea_top.proofs.trail.read_trail.Given as goal

abbrev pub invariant-loop-trail : goal.invariant-loop-trail
invariant-loop-trail g l = record {
  read_so_far : IfSome (g.D.Device.contents l.fn.device) (HasRead l.trail);
  only_read : OnlyRead g.D.Device l.fn.device l.device;
  later : g.D.Device.faults l.fn.device ≤ g.D.Device.faults l.device;
  within : l.trail.end ≤ g.D.Device.size l.fn.device;
  some : 1 ≤ l.trail.commit;
  counted : l.trail.commit ≤ l.trail.end + 1;
  digest : length l.trail.previous.0 ≡ 32;
}

abbrev pub decreases-loop-trail : goal.decreases-loop-trail
decreases-loop-trail g l = l.blocks - l.trail.end
