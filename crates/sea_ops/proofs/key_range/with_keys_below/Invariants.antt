use Rattle.std.proofs.Common.{◌≡◌, ◌+◌, ◌≤◌, ◌++◌, filter, length, take, map as each}
use Rattle.std.specs.Ordering.{is_lt}
use Rattle.sea_node.specs.Entries.{key_order}
use Rattle.sea_ops.proofs.key_range.with_keys_below.Given as goal

abbrev pub invariant-loop-key : goal.invariant-loop-key
invariant-loop-key l =
    (l.all ≡ l.fn.keys ++ filter (λ key. is_lt (key_order key l.bound)) (each (λ pair. pair.0) (take l.key-index l.key-items)))
    × (length l.all ≤ length l.fn.keys + l.key-index)
