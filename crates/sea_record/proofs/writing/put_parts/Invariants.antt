use Rattle.std.proofs.Common.{◌≡◌, ◌+◌, ◌*◌, ◌++◌, ℕ, List, length, take}
use Rattle.std.specs.List.{flat_map}
use Rattle.sea_record.proofs.Laying.{Laid}
use Rattle.sea_record.proofs.writing.put_parts.Given as goal

abbrev pub invariant-loop-placed : goal.invariant-loop-placed
invariant-loop-placed l = record {
  count : l.at ≡ 4096 * (1 + l.placed-index);
  laid : Laid (λ p. p.block) l.fn.into l.fn.front (take l.placed-index l.placed-items) l.at l.into;
}

abbrev pub invariant-loop-node : goal.invariant-loop-node
invariant-loop-node l = record {
  count : l.at ≡ 4096 * (1 + length l.fn.body.placed + l.node-index);
  laid : Laid {A = List ℕ} (λ n. n) l.fn.into (l.fn.front ++ flat_map (λ p. p.block) l.fn.body.placed) (take l.node-index l.node-items) l.at l.into;
}
