use Rattle.std.proofs.Common.{◌≡◌, drop}
use Rattle.std.specs.List.{list_any}
use Rattle.sea_object.specs.Op.{takes}
use Rattle.sea_object.proofs.request.some_takes.Given as goal

abbrev pub invariant-loop-op : goal.invariant-loop-op
invariant-loop-op l = list_any takes (drop l.op-index l.ops) ≡ list_any takes l.ops
