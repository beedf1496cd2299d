-- Objects as the model has them.
use Rattle.std.specs.Prelude.{ℕ, List, [], ◌∷◌, filter, take, Option, Some, None}
use Rattle.std.specs.Prelude.{Bool, true, ◌&&◌, not, refl}
use Rattle.std.specs.Ordering.{nat_cmp, is_lt, is_le}
use Rattle.std.specs.Cmp.Lexicographic.{slice_cmp}
use Rattle.std.specs.declared.ops.Bound.{Bound}
use Rattle.std.specs.declared.ops.Bound.TheVariants.{Excluded, Unbounded}
use Rattle.std.specs.FinMap as map
use Rattle.std.specs.Coded.{Coded, code_by, coded×, coded_ℕ, coded_list}

-- what stands under names or keys, which are ordered by their bytes
abbrev pub Named : Type 0 → Type 0
Named X = map.FinMap (slice_cmp nat_cmp) X

-- values under keys
abbrev pub Values : Type 0
Values = Named (List ℕ)

-- an object: its bytes, its attributes and its omap
pub record ObjectValue : Type 0 where
  pub bytes : List ℕ
  pub attributes : Values
  pub omap : Values

-- objects under their names
abbrev pub ObjectMap : Type 0
ObjectMap = Named ObjectValue

-- an object that was just made
abbrev pub empty_object : ObjectValue
empty_object = record { bytes = []; attributes = map.empty; omap = map.empty }

-- the same with this one under the name, or with none there
abbrev pub with_object : {X : Type 0} → Named X → List ℕ → Option X → Named X
with_object objects name None = map.remove objects name
with_object objects name (Some object) = map.insert objects name object

-- the pairs put in order, of which the last of one key stays
abbrev pub with_pairs : {X : Type 0} → List (List ℕ × X) → Named X → Named X
with_pairs [] values = values
with_pairs (pair ∷ pairs) values = with_pairs pairs (map.insert values pair.0 pair.1)

-- without these keys
abbrev pub without_keys : List (List ℕ) → Values → Values
without_keys [] values = values
without_keys (key ∷ keys) values = without_keys keys (map.remove values key)

-- whether a key stands behind another one, or there is no other
abbrev pub is_after : Option (List ℕ) → List ℕ → Bool
is_after None key = true
is_after (Some other) key = is_lt (slice_cmp nat_cmp other key)

-- the same as the bound that a range begins at
abbrev pub bound_behind : Option (List ℕ) → Bound (List ℕ)
bound_behind None = Unbounded
bound_behind (Some other) = Excluded other

-- whether a key is this one or stands behind it
abbrev pub is_from : List ℕ → List ℕ → Bool
is_from first key = is_le (slice_cmp nat_cmp first key)

-- the first pairs in order, of the keys behind one
abbrev pub first_pairs : ℕ → Option (List ℕ) → Values → List (List ℕ × List ℕ)
first_pairs limit after values = take limit (filter (λ e. is_after after e.0) (map.entries values))

-- the first names in order, of those behind one
abbrev pub first_names : ℕ → Option (List ℕ) → ObjectMap → List (List ℕ)
first_names limit after objects = take limit (filter (is_after after) (map.keys objects))

-- the first keys in order, from one on and below another
abbrev pub keys_between : List ℕ → List ℕ → ℕ → Values → List (List ℕ)
keys_between from to bound values =
    take bound (filter (λ key. is_from from key && not (is_from to key)) (map.keys values))

-- how values under keys are stored
abbrev pub values_code : Coded Values
values_code = map.code {R = slice_cmp nat_cmp} (coded_list coded_ℕ) (coded_list coded_ℕ)

-- an object is stored as its three parts
abbrev pub object_code : Coded ObjectValue
object_code =
    code_by (List ℕ × (Values × Values))
    (coded× (coded_list coded_ℕ) (coded× values_code values_code))
    (λ o. (o.bytes, (o.attributes, o.omap)))
    (λ p. record { bytes = p.0; attributes = p.1.0; omap = p.1.1 })
    (λ _. refl)
