-- How operations are taken back: what was replaced is kept, and put back in its place.
use Rattle.std.specs.Prelude.{◌≡◌, ℕ, ◌+◌, ◌≤◌, Option, Some, None, option_map}
use Rattle.std.specs.Prelude.{List, [], ◌∷◌, length, take}
use Rattle.std.specs.FinMap as map
use Rattle.sea_object.specs.declared.patch.Saved.{Saved}
use Rattle.sea_object.specs.declared.content.Earlier.{Earlier}
use Rattle.sea_object.specs.declared.values.Former.{Former}
use Rattle.sea_object.specs.declared.values.Former.TheVariants.{Whole, Slots}
use Rattle.sea_object.specs.declared.values.Kept.{Kept}
use Rattle.sea_object.specs.declared.undo.Undo.{Undo}
use Rattle.sea_object.specs.declared.undo.Undo.TheVariants.{Slot, Content, Attributes, Omap}
use Rattle.sea_object.specs.declared.undo.Step.{Step}
use Rattle.sea_object.specs.declared.undo.Step.TheVariants.{Unchanged, Changed, Added}
use Rattle.sea_object.specs.declared.undo.Halt.{Halt}
use Rattle.sea_object.specs.declared.undo.Halt.TheVariants.{NoMemory, Refused}
use Rattle.sea_object.specs.declared.undo.Stop.{Stop}
use Rattle.sea_object.specs.declared.undo.Stop.TheVariants.{NoMemory as OutOfMemory}
use Rattle.sea_object.specs.declared.undo.Stop.TheVariants.{Refused as RefusedAt}
use Rattle.sea_object.specs.declared.reply.Why.{Why}
use Rattle.sea_object.specs.Answer.{written}
use Rattle.sea_object.specs.Objects.{Named}
use Rattle.sea_object.specs.Held.{Stored, Held, SlotMap, ValueSlots}

-- what is saved can be put back into these bytes
abbrev pub Fits : Saved → List ℕ → Type 0
Fits saved bytes = (saved.offset + length saved.bytes ≤ saved.size) × (saved.size ≤ length bytes)

-- the bytes cut to their size before, and what is saved put back
abbrev pub restored : Saved → List ℕ → List ℕ
restored saved bytes = written saved.offset saved.bytes (take saved.size bytes)

-- the same of bytes of which nothing, or something, was replaced
abbrev pub FitsReplaced : ℕ → Option Saved → List ℕ → Type 0
FitsReplaced size None bytes = size ≤ length bytes
FitsReplaced size (Some saved) bytes = Fits saved bytes × (size ≤ saved.size)

abbrev pub restored_replaced : Option Saved → List ℕ → List ℕ
restored_replaced None bytes = bytes
restored_replaced (Some saved) bytes = restored saved bytes

abbrev pub CanRestore : Earlier → Stored → Type 0
CanRestore earlier stored =
    (earlier.size ≤ 16777216) × FitsReplaced earlier.size earlier.replaced stored.bytes

abbrev pub restored_content : Earlier → Stored → Stored
restored_content earlier stored =
    record { bytes = restored_replaced earlier.replaced stored.bytes; size = earlier.size }

-- a slot that is there, with this in it
abbrev pub refilled : {X : Type 0} → Named X → List ℕ → X → Option X → Named X
refilled slots key slot None = slots
refilled slots key slot (Some other) = map.insert slots key slot

-- the slots with this one as it was, or without it where there was none
abbrev pub put_back_slot : ValueSlots → List ℕ → Option (Option (List ℕ)) → ValueSlots
put_back_slot slots key None = map.remove slots key
put_back_slot slots key (Some slot) = refilled slots key slot (map.get slots key)

-- the slots before some of them were changed, the last one first
abbrev pub before_changes : List Kept → ValueSlots → ValueSlots
before_changes [] slots = slots
before_changes (kept ∷ log) slots = put_back_slot (before_changes log slots) kept.key kept.slot

abbrev pub values_before : Former → ValueSlots → ValueSlots
values_before (Whole values) slots = values
values_before (Slots log) slots = before_changes log slots

-- the operation can be taken back from this object
abbrev pub CanUndo : Undo → Held → Type 0
CanUndo (Content earlier) held = CanRestore earlier held.stored
CanUndo _ held = Unit {0}

-- the object once it is
abbrev pub undone : Undo → Held → Held
undone (Content earlier) held = record held { stored = restored_content earlier held.stored }
undone (Attributes former) held = record held { attributes = values_before former held.attributes }
undone (Omap former) held = record held { omap = values_before former held.omap }
undone _ held = held

-- the same of a slot
abbrev pub CanUndoSlot : Undo → Option Held → Type 0
CanUndoSlot undo None = Unit {0}
CanUndoSlot undo (Some held) = CanUndo undo held

abbrev pub undone_slot : Undo → Option Held → Option Held
undone_slot (Slot old) slot = old
undone_slot undo slot = option_map (undone undo) slot

-- the same of the slot that was found under a name
abbrev pub CanUndoFound : Undo → Option (Option Held) → Type 0
CanUndoFound undo None = Unit {0}
CanUndoFound undo (Some slot) = CanUndoSlot undo slot

abbrev pub put_back : Undo → List ℕ → SlotMap → Option (Option Held) → SlotMap
put_back undo name slots None = slots
put_back undo name slots (Some slot) = map.insert slots name (undone_slot undo slot)

-- a step on the object of this name can be taken back from these slots
abbrev pub CanStepBack : Step → List ℕ → SlotMap → Type 0
CanStepBack (Changed undo) name slots = CanUndoFound undo (map.get slots name)
CanStepBack _ name slots = Unit {0}

-- the slots once it is
abbrev pub stepped_back : Step → List ℕ → SlotMap → SlotMap
stepped_back Unchanged name slots = slots
stepped_back Added name slots = map.remove slots name
stepped_back (Changed undo) name slots = put_back undo name slots (map.get slots name)

-- the same of an operation that may be on no object
abbrev pub CanTakeBack : Step → Option (List ℕ) → SlotMap → Type 0
CanTakeBack step None slots = Unit {0}
CanTakeBack step (Some name) slots = CanStepBack step name slots

abbrev pub taken_back : Step → Option (List ℕ) → SlotMap → SlotMap
taken_back step None slots = slots
taken_back step (Some name) slots = stepped_back step name slots

-- an operation may come to a halt at any time for want of memory, and else where it is refused
abbrev pub MayHalt : Option Why → Halt → Type 0
MayHalt refusal NoMemory = Unit {0}
MayHalt refusal (Refused why) = refusal ≡ Some why

-- the same of operations, of which the first that is refused has this number
abbrev pub MayStop : Option (ℕ × Why) → Stop → Type 0
MayStop refused OutOfMemory = Unit {0}
MayStop refused (RefusedAt number why) = refused ≡ Some (number, why)

-- the halt of the operation of this number
abbrev pub stop_at : ℕ → Halt → Stop
stop_at number NoMemory = OutOfMemory
stop_at number (Refused why) = RefusedAt number why
