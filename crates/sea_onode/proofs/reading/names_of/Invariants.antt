use Rattle.std.proofs.Common.{◌≡◌, take, map as each}
use Rattle.sea_onode.proofs.reading.names_of.Given as goal

abbrev pub invariant-loop-name : goal.invariant-loop-name
invariant-loop-name l = l.names ≡ each (λ e. e.0) (take l.name-index l.items)
