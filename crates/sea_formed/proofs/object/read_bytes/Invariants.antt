use Rattle.std.proofs.Common.{◌≡◌}
use Rattle.sea_data.specs.Bytes.{bytes_from}
use Rattle.sea_formed.specs.Blocks.{store_of}
use Rattle.sea_formed.proofs.object.read_bytes.Given as goal

abbrev pub invariant-loop-index : goal.invariant-loop-index
invariant-loop-index l = l.bytes.items ≡ bytes_from (store_of l.blocks) l.onode.base.0 0 l.index
