-- An image opens to one map of objects alone, and then is not shut.
use Rattle.std.proofs.Common.{◌≡◌, ℕ, List, [], ◌∷◌, ◌++◌, refl, sym, ap, ◌∙◌, subst}
use Rattle.std.specs.FinMap as map
use Rattle.sea_object.specs.Objects.{ObjectMap}
use Rattle.sea_record.specs.declared.record.Kind.TheVariants.{Plain}
use Rattle.sea_record.specs.declared.record.Record.{Record}
use Rattle.sea_trail.specs.declared.fault.ImageWhy.{ImageWhy}
use Rattle.sea_trail.specs.declared.trail.Trail.{Trail}
use Rattle.sea_trail.proofs.Unique.{one_trail, not_both}
use Rattle.sea_trail.specs.Trail.{IsTrail}
use Rattle.sea_engine.specs.Reading.{Shuts, strange_fault}
use Rattle.sea_engine.specs.Replay.{IsCause}
use Rattle.sea_engine.specs.declared.replay.ReplayFault.{ReplayFault}
use Rattle.sea_engine.specs.declared.replay.ReplayFault.TheVariants.{NoMemory, Strange}
use Rattle.sea_engine.specs.Opens.{Change, Lays, Makes, Opens, IsStrange, HasStrange, IsShut, no_trail, no_change}
use Rattle.sea_engine.proofs.Making.{makes_one, makes_split}

pub opens_one : (lays : Change) → ((bytes : List ℕ) (objects first second : ObjectMap) → lays bytes objects first → lays bytes objects second → first ≡ second) → (image : List ℕ) (a b : ObjectMap) → Opens lays image a → Opens lays image b → a ≡ b
opens_one lays one image a b first second =
    let same : first.trail ≡ second.trail = one_trail image first.trail second.trail first.is_trail second.is_trail in
    makes_one lays one second.trail.records map.empty a b (subst (λ t. Makes lays t.records map.empty a) same first.made) second.made

-- records that make something have none whose bytes spell no change
not_strange : (lays : Change) (records : List Record) (block : ℕ) (objects : ObjectMap) → Makes lays records map.empty objects → IsStrange lays records block → ⊥
not_strange lays records block objects made strange =
    let whole = subst (λ rs. Makes lays rs map.empty objects) strange.cut made in
    let split = makes_split lays strange.before (strange.strange ∷ strange.behind) map.empty objects whole in
    let laid = split.2.1 in
    strange.nothing split.0 split.2.0 (subst (λ k. Lays lays k strange.strange.body.plain split.0 split.2.0) strange.kind laid)

pub not_shut : (lays : Change) (image : List ℕ) (objects : ObjectMap) (why : ImageWhy) → Opens lays image objects → IsShut lays image why → ⊥
not_shut lays image objects why opens (no_trail refused) = not_both image opens.trail why opens.is_trail refused
not_shut lays image objects why opens (no_change block is has) =
    let same : opens.trail ≡ has.trail = one_trail image opens.trail has.trail opens.is_trail has.is_trail in
    not_strange lays has.trail.records block objects (subst (λ t. Makes lays t.records map.empty objects) same opens.made) has.strange

-- why records made no objects is why their image is shut
pub shut_by : (lays : Change) (image : List ℕ) (t : Trail) (fault : ReplayFault) → IsTrail image t → IsCause lays t.records fault → Shuts lays image (strange_fault fault)
shut_by lays image t NoMemory is cause = tt
shut_by lays image t (Strange block) is cause =
    no_change block.0 refl (record { trail = t; is_trail = is; strange = cause })
