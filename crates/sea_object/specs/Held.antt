-- Objects as they are held in memory.
use Rattle.std.specs.Prelude.{ℕ, List, [], ◌∷◌, take, Option, option_map, refl}
use Rattle.std.specs.Ordering.{nat_cmp}
use Rattle.std.specs.Cmp.Lexicographic.{slice_cmp}
use Rattle.std.specs.FinMap as map
use Rattle.std.specs.Coded.{Coded, code_by, coded×, coded_ℕ, coded_list, coded_option}
use Rattle.sea_object.specs.Objects.{Named, Values, ObjectValue, ObjectMap, with_object}

-- bytes and a size: the bytes past the size are left over from before, and mean nothing
pub record Stored : Type 0 where
  pub bytes : List ℕ
  pub size : ℕ

-- the bytes that count
abbrev pub content : Stored → List ℕ
content stored = take stored.size stored.bytes

-- what stands under keys: a slot is empty while the value that stood there may come back
abbrev pub ValueSlots : Type 0
ValueSlots = Named (Option (List ℕ))

-- what stands in slots, each as it is shown
abbrev pub shown_slots : {X Y : Type 0} → (X → Y) → List (List ℕ × Option X) → Named Y
shown_slots show [] = map.empty
shown_slots show (slot ∷ slots) =
    with_object (shown_slots show slots) slot.0 (option_map show slot.1)

-- the values that stand in slots
abbrev pub values_in : ValueSlots → Values
values_in slots = shown_slots (λ value. value) (map.entries slots)

-- an object in memory
pub record Held : Type 0 where
  pub stored : Stored
  pub attributes : ValueSlots
  pub omap : ValueSlots

-- the object that it is
abbrev pub shown : Held → ObjectValue
shown held =
    record {
      bytes = content held.stored;
      attributes = values_in held.attributes;
      omap = values_in held.omap;
    }

abbrev pub new_held : Held
new_held =
    record { stored = record { bytes = []; size = 0 }; attributes = map.empty; omap = map.empty }

-- the same of objects under names
abbrev pub SlotMap : Type 0
SlotMap = Named (Option Held)

-- the objects that stand in slots
abbrev pub shown_objects : SlotMap → ObjectMap
shown_objects slots = shown_slots shown (map.entries slots)

-- how these are stored
abbrev pub stored_code : Coded Stored
stored_code =
    code_by (List ℕ × ℕ)
    (coded× (coded_list coded_ℕ) coded_ℕ)
    (λ s. (s.bytes, s.size))
    (λ p. record { bytes = p.0; size = p.1 })
    (λ _. refl)

abbrev pub value_slots_code : Coded ValueSlots
value_slots_code =
    map.code {R = slice_cmp nat_cmp} (coded_list coded_ℕ) (coded_option (coded_list coded_ℕ))

abbrev pub held_code : Coded Held
held_code =
    code_by (Stored × (ValueSlots × ValueSlots))
    (coded× stored_code (coded× value_slots_code value_slots_code))
    (λ h. (h.stored, (h.attributes, h.omap)))
    (λ p. record { stored = p.0; attributes = p.1.0; omap = p.1.1 })
    (λ _. refl)

abbrev pub slots_code : Coded SlotMap
slots_code = map.code {R = slice_cmp nat_cmp} (coded_list coded_ℕ) (coded_option held_code)
