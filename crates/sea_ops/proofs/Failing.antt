-- Faults of operations of any kind, on stores with fewer filled addresses.
use Rattle.std.proofs.Common.{◌≡◌, ◌-◌, ◌^◌, Result, Ok, Err, IfErr, arith}
use Rattle.sea_base.specs.Space.{Seen, laid}
use Rattle.sea_object.specs.declared.reply.Item.{Item}
use Rattle.sea_tree.specs.declared.fault.TreeFault.{TreeFault}
use Rattle.sea_ops.specs.Calls.{FailsUnlessFull}
use Rattle.sea_ops.specs.Executing.{done_end}
use Rattle.sea_ops.proofs.TurnFails.{more_room}

-- an operation that is never refused, and fails on no store with more room
pub fails_with_less : (old new : Seen) (end : Result Item TreeFault) → IfErr end (FailsUnlessFull (2 ^ 25) old new) → IfErr (done_end end) (FailsUnlessFull (2 ^ 25 - 2 ^ 20) old new)
fails_with_less old new (Ok item) fails = fails
fails_with_less old new (Err fault) fails = λ store next objects m few. fails store next objects m (more_room (laid old store) (2 ^ 25 - 2 ^ 20) (2 ^ 25) (omega arith) few)
