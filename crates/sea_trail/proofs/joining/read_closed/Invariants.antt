use Rattle.std.proofs.Common.{◌≡◌, ◌+◌, ◌≤◌, IfSome, length}
use Rattle.sea_device.specs.Calls.{OnlyRead}
use Rattle.sea_trail.specs.Trail.{AreParts}
use Rattle.sea_trail.proofs.joining.read_closed.Given as goal

abbrev pub invariant-loop-seq : goal.invariant-loop-seq
invariant-loop-seq g l = record {
  so_far : IfSome (g.D.Device.contents l.fn.device) (λ image. AreParts image l.segments l.newest.last.tail.seq l.parts.items);
  counted : l.newest.last.tail.seq + length l.parts.items ≡ l.seq;
  only_read : OnlyRead g.D.Device l.fn.device l.device;
  later : g.D.Device.faults l.fn.device ≤ g.D.Device.faults l.device;
}
