use Rattle.std.proofs.Common.{◌≡◌}
use Rattle.sea_trail.specs.Trail.{records_in}
use Rattle.sea_trail_trial.proofs.plain.joining.all_records.Given as goal

abbrev pub invariant-loop-part : goal.invariant-loop-part
invariant-loop-part l = l.records.items ≡ records_in l.yielded
