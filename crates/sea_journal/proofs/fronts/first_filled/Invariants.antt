use Rattle.std.proofs.Common.{◌≡◌, IfSome}
use Rattle.sea_device.specs.Calls.{OnlyRead}
use Rattle.sea_journal.proofs.Blanks.{BlankBefore}
use Rattle.sea_journal.proofs.fronts.first_filled.Given as goal

abbrev pub invariant-loop-segment : goal.invariant-loop-segment
invariant-loop-segment g l = record {
  blank : IfSome (g.D.Device.contents l.fn.device) (BlankBefore l.segment);
  only_read : OnlyRead g.D.Device l.fn.device l.device;
  faults : g.D.Device.faults l.device ≡ g.D.Device.faults l.fn.device;
}
