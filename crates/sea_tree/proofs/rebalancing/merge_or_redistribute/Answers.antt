use Rattle.std.proofs.Common.{ap, arith}
use Rattle.sea_node.specs.Entries.{size}
use Rattle.sea_tree.proofs.MendNear.{IsNode-filled}
use Rattle.sea_tree.proofs.rebalancing.merge_or_redistribute.Goals as goal

pub plan_node-requires : goal.plan_node-requires
plan_node-requires c =
    IsNode-filled c.args.pair.both.level c.requires.near.0 c.args.pair.both.entries c.requires.near.1
    (c.requires.filled, omega (arith, c.if-size_of-gt-ROOM_BYTES.false, c.size_of.ensures, ap size c.items.ensures))
