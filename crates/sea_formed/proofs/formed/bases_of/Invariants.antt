use Rattle.std.proofs.Common.{◌≡◌, take, map}
use Rattle.sea_formed.proofs.formed.bases_of.Given as goal

abbrev pub invariant-loop-one : goal.invariant-loop-one
invariant-loop-one l = l.bases.items ≡ map (λ one. one.onode.base.0) (take l.one-index l.held)
