-- Objects as the model has them.
use Rattle.std.specs.Prelude.{ℕ, List, [], unwrap_or, refl}
use Rattle.std.specs.Ordering.{nat_cmp}
use Rattle.std.specs.Cmp.Lexicographic.{slice_cmp}
use Rattle.std.specs.FinMap as map
use Rattle.std.specs.Coded.{Coded, code_by, coded×, coded_ℕ, coded_list}

-- values under keys, and objects' names, are ordered by their bytes
abbrev pub Values : Type 0
Values = map.FinMap (slice_cmp nat_cmp) (List ℕ)

-- an object: its bytes, its attributes and its omap
pub record ObjectValue : Type 0 where
  pub bytes : List ℕ
  pub attributes : Values
  pub omap : Values

-- objects under their names
abbrev pub ObjectMap : Type 0
ObjectMap = map.FinMap (slice_cmp nat_cmp) ObjectValue

-- an object that was just made
abbrev pub empty_object : ObjectValue
empty_object = record { bytes = []; attributes = map.empty; omap = map.empty }

-- the object of a name, an empty one where there is none
abbrev pub object_at : ObjectMap → List ℕ → ObjectValue
object_at objects name = unwrap_or (map.get objects name) empty_object

-- the objects with these bytes for one of them
abbrev pub with_bytes : ObjectMap → List ℕ → List ℕ → ObjectMap
with_bytes objects name bytes =
    map.insert objects name (record (object_at objects name) { bytes = bytes })

-- how values under keys are stored
abbrev pub values_code : Coded Values
values_code = map.code {R = slice_cmp nat_cmp} (coded_list coded_ℕ) (coded_list coded_ℕ)

-- an object is stored as its three parts
abbrev pub object_code : Coded ObjectValue
object_code =
    code_by (List ℕ × (Values × Values)) (coded× (coded_list coded_ℕ) (coded× values_code values_code)) (λ o. (o.bytes, (o.attributes, o.omap))) (λ p. record { bytes = p.0; attributes = p.1.0; omap = p.1.1 }) (λ _. refl)
