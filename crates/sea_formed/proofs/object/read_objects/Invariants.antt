use Rattle.std.proofs.Common.{take}
use Rattle.sea_formed.specs.Blocks.{store_of}
use Rattle.sea_formed.specs.Held.{AreHeld}
use Rattle.sea_formed.proofs.object.read_objects.Given as goal

abbrev pub invariant-loop-name : goal.invariant-loop-name
invariant-loop-name l = AreHeld (store_of l.blocks) l.next (take l.name-index l.pairs) l.held.items
