use Rattle.std.proofs.Common.{◌≡◌, drop}
use Rattle.std.specs.List.{list_any}
use Rattle.sea_object.specs.Op.{adds}
use Rattle.sea_object.proofs.request.some_adds.Given as goal

abbrev pub invariant-loop-op : goal.invariant-loop-op
invariant-loop-op l = list_any adds (drop l.op-index l.ops) ≡ list_any adds l.ops
