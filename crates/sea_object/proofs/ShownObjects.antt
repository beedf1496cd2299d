-- What slots show of the objects in them.
use Rattle.std.proofs.Common.{◌≡◌, ℕ, List, Option, Some, None, sym, ap, ◌∙◌}
use Rattle.std.specs.Prelude.{option_map}
use Rattle.std.specs.Option.{option_flatten}
use Rattle.std.specs.FinMap.{empty, get, insert, remove}
use Rattle.sea_object.specs.Objects.{ObjectValue, with_object}
use Rattle.sea_object.specs.Held.{Held, SlotMap, shown, shown_objects}
use Rattle.sea_object.proofs.Lookups.{insert_same}
use Rattle.sea_object.proofs.Shown as any

-- what is shown of a slot that was looked up
abbrev pub seen : Option (Option Held) → Option ObjectValue
seen slot = option_map shown (option_flatten slot)

-- an object is there where its slot has one
pub get-shown : (slots : SlotMap) (q : List ℕ) → get (shown_objects slots) q ≡ seen (get slots q)
get-shown slots q = any.get-shown shown slots q

-- what is put into a slot is put under its name
pub shown-insert : (slots : SlotMap) (k : List ℕ) (slot : Option Held) → shown_objects (insert slots k slot) ≡ with_object (shown_objects slots) k (option_map shown slot)
shown-insert slots k slot = any.shown-insert shown slots k slot

-- an empty slot may go
pub shown-remove : (slots : SlotMap) (k : List ℕ) → option_flatten (get slots k) ≡ None → shown_objects (remove slots k) ≡ shown_objects slots
shown-remove slots k none = any.shown-remove shown slots k none

pub shown-empty : shown_objects empty ≡ empty
shown-empty = any.shown-empty shown

-- what stands in a slot may change where it shows the same
pub shown-same : (slots : SlotMap) (k : List ℕ) (old new : Option Held) → get slots k ≡ Some old → option_map shown new ≡ option_map shown old → shown_objects (insert slots k new) ≡ shown_objects slots
shown-same slots k old new has same =
    shown-insert slots k new
    ∙ ap (with_object (shown_objects slots) k) same
    ∙ sym (shown-insert slots k old)
    ∙ ap shown_objects (insert_same slots k old has)
