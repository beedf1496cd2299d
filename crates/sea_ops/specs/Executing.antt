-- How an operation of any kind ends that was not done.
use Rattle.std.specs.Prelude.{ℕ, ◌-◌, ◌^◌, Result, Ok, Err, Option, Some, None}
use Rattle.sea_base.specs.Space.{Seen}
use Rattle.sea_base.specs.declared.space.SpaceFault.{SpaceFault}
use Rattle.sea_object.specs.declared.op.Op.{Op}
use Rattle.sea_object.specs.declared.reply.Item.{Item}
use Rattle.sea_object.specs.declared.reply.Why.{Why}
use Rattle.sea_tree.specs.declared.fault.TreeFault.{TreeFault}
use Rattle.sea_tree.specs.declared.fault.TreeFault.TheVariants.{Space, Broken}
use Rattle.sea_ops.specs.declared.fault.OpFault.{OpFault}
use Rattle.sea_ops.specs.declared.fault.OpFault.TheVariants.{Refused, Tree}
use Rattle.sea_ops.specs.Calls.{Refuses, FailsUnlessFull}

-- Why an operation was not done: the model refuses it for the same reason, or a call failed, with a
-- fault of the space where a tree can always grow.
abbrev pub IsFault : Op → Seen → Seen → OpFault → Type 0
IsFault op old new (Refused why) = Refuses op why old new
IsFault op old new (Tree fault) = FailsUnlessFull (2 ^ 25 - 2 ^ 20) old new fault

-- the fault of the space that an operation ended with, if there is one
abbrev pub fault_of_space : {T : Type 0} → Result T OpFault → Option SpaceFault
fault_of_space (Ok item) = None
fault_of_space (Err (Refused why)) = None
fault_of_space (Err (Tree (Space fault))) = Some fault
fault_of_space (Err (Tree (Broken at))) = None

-- the end of an operation, with a refusal as a fault
abbrev pub settled_end : Result Item Why → Result Item OpFault
settled_end (Ok item) = Ok item
settled_end (Err why) = Err (Refused why)

-- the end of an operation that is never refused
abbrev pub done_end : Result Item TreeFault → Result (Result Item Why) TreeFault
done_end (Ok item) = Ok (Ok item)
done_end (Err fault) = Err fault
