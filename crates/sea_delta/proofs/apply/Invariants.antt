use Rattle.std.proofs.Common.{◌≡◌, drop}
use Rattle.sea_delta.specs.Splices.{after_all}
use Rattle.sea_delta.proofs.apply.Given as goal

abbrev pub invariant-loop-change : goal.invariant-loop-change
invariant-loop-change l =
    after_all (drop l.change-index l.changes) l.made ≡ after_all l.changes l.block
