-- What objects an image opens to, and why it opens to none.
use Rattle.std.specs.Prelude.{◌≡◌, ℕ, ◌<◌, List, [], ◌∷◌, ◌++◌}
use Rattle.std.specs.FinMap as map
use Rattle.sea_object.specs.Objects.{ObjectMap}
use Rattle.sea_record.specs.declared.record.Kind.{Kind}
use Rattle.sea_record.specs.declared.record.Kind.TheVariants.{Mount, Client, Shift, Nodes, Plain}
use Rattle.sea_record.specs.declared.record.Record.{Record}
use Rattle.sea_trail.specs.Refusals.{IsRefused}
use Rattle.sea_trail.specs.Trail.{IsTrail}
use Rattle.sea_trail.specs.declared.fault.ImageWhy.{ImageWhy}
use Rattle.sea_trail.specs.declared.fault.ImageWhy.TheVariants.{BadRecord}
use Rattle.sea_trail.specs.declared.trail.Trail.{Trail}
use Rattle.sea_transactions.specs.Calls.{SpellsNothing}

-- the change that bytes spell makes the second map of objects of the first
abbrev pub Change : Type 1
Change = List ℕ → ObjectMap → ObjectMap → Type 0

-- a plain record changes what its bytes spell, and any other record nothing
abbrev pub Lays : Change → Kind → List ℕ → ObjectMap → ObjectMap → Type 0
Lays lays Plain bytes old new = lays bytes old new
Lays lays Mount bytes old new = new ≡ old
Lays lays Client bytes old new = new ≡ old
Lays lays Shift bytes old new = new ≡ old
Lays lays Nodes bytes old new = new ≡ old

-- records make the second map of objects of the first, one after the other
abbrev pub Makes : Change → List Record → ObjectMap → ObjectMap → Type 0
Makes lays [] old new = new ≡ old
Makes lays (r ∷ rs) old new =
    (between : ObjectMap) × Lays lays r.body.kind r.body.plain old between × Makes lays rs between new

-- each record has a greater number than the one before, from a number on
abbrev pub AreRising : ℕ → List Record → Type 0
AreRising number [] = Unit {0}
AreRising number (r ∷ rs) = (number < r.commit.0) × AreRising r.commit.0 rs

-- An image opens to the objects that the records of its trail make.
pub record Opens (lays : Change) (image : List ℕ) (objects : ObjectMap) : Type 0 where
  pub trail : Trail
  pub is_trail : IsTrail image trail
  pub made : Makes lays trail.records map.empty objects

-- The first of these records whose bytes spell no change is at this block.
pub record IsStrange (lays : Change) (records : List Record) (block : ℕ) : Type 0 where
  pub before : List Record
  pub strange : Record
  pub behind : List Record
  pub cut : records ≡ before ++ strange ∷ behind
  pub objects : ObjectMap
  pub made : Makes lays before map.empty objects
  pub kind : strange.body.kind ≡ Plain
  pub nothing : SpellsNothing lays strange.body.plain
  pub at : block ≡ strange.place.0

-- such a record stands on the trail of an image
pub record HasStrange (lays : Change) (image : List ℕ) (block : ℕ) : Type 0 where
  pub trail : Trail
  pub is_trail : IsTrail image trail
  pub strange : IsStrange lays trail.records block

-- Why an image opens to no objects: it has no trail, or bytes on its trail spell no change.
pub data IsShut (lays : Change) (image : List ℕ) (why : ImageWhy) : Type 0 where
  no_trail : IsRefused image why → IsShut lays image why
  no_change : (block : ℕ) → why ≡ BadRecord (record { 0 = block }) → HasStrange lays image block → IsShut lays image why
