-- What holds of all images and their objects.
use Rattle.std.specs.Prelude.{◌≡◌, ℕ, List}
use Rattle.sea_object.specs.Objects.{ObjectMap}
use Rattle.sea_trail.specs.declared.fault.ImageWhy.{ImageWhy}
use Rattle.sea_engine.specs.Opens.{Change, Opens, IsShut}

-- an image opens to one map of objects alone
abbrev pub OneMap : Change → Type 0
OneMap lays = (image : List ℕ) (a b : ObjectMap) → Opens lays image a → Opens lays image b → a ≡ b

-- what opens isn't shut
abbrev pub NotShut : Change → Type 0
NotShut lays = (image : List ℕ) (objects : ObjectMap) (why : ImageWhy)
    → Opens lays image objects → IsShut lays image why → ⊥
