use Rattle.std.proofs.Common.{◌≤◌, IfSome}
use Rattle.sea_device.specs.Calls.{OnlyRead}
use Rattle.sea_trail.specs.Parts.{IsSurvey, SurveyFits}
use Rattle.sea_trail.proofs.survey.read_headers.Given as goal

abbrev pub invariant-loop-segment : goal.invariant-loop-segment
invariant-loop-segment g l = record {
  so_far : IfSome (g.D.Device.contents l.fn.device) (IsSurvey l.survey l.segment);
  fits : SurveyFits l.survey l.segments;
  only_read : OnlyRead g.D.Device l.fn.device l.device;
  later : g.D.Device.faults l.fn.device ≤ g.D.Device.faults l.device;
}
