use Rattle.std.proofs.Common.{◌≡◌, ◌++◌, take}
use Rattle.std.specs.List.{flat_map}
use Rattle.sea_formed.specs.Shares.{nodes_of}
use Rattle.sea_formed.proofs.share.all_nodes.Given as goal

abbrev pub invariant-loop-one : goal.invariant-loop-one
invariant-loop-one l = l.nodes.items ≡ l.own ++ flat_map nodes_of (take l.one-index l.held)
