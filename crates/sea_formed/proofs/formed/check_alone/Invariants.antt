use Rattle.std.proofs.Common.{take, ◌+◌}
use Rattle.std.specs.List.{All}
use Rattle.sea_formed.specs.Shares.{AreAlone}
use Rattle.sea_formed.proofs.formed.check_alone.Given as goal

abbrev pub invariant-loop-one : goal.invariant-loop-one
invariant-loop-one l = record {
  attributes : All (λ one. AreAlone l.held one.onode.base.0 one.attributes.nodes.items) (take l.one-index l.held);
  omaps : All (λ one. AreAlone l.held (one.onode.base.0 + 1) one.omap.nodes.items) (take l.one-index l.held);
}
