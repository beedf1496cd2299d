use Rattle.std.proofs.Common.{take, ◌≤◌, ◌<◌, ◌++◌}
use Rattle.std.specs.List.{All, flat_map}
use Rattle.sea_formed.specs.Shares.{HasUse, EndsBefore, nodes_of}
use Rattle.sea_formed.proofs.formed.check_filled.Given as goal

abbrev pub invariant-loop-at : goal.invariant-loop-at
invariant-loop-at l = record {
  used : All (HasUse (l.own ++ flat_map nodes_of l.held) l.held) (take l.at-index l.filled);
  within : All (λ at. (1 ≤ at) × (at < l.next)) (take l.at-index l.filled);
  ends : All (λ at. All (λ one. EndsBefore one.onode at) l.held) (take l.at-index l.filled);
}
