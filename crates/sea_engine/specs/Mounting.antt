-- What an engine begins with, and why it doesn't open.
use Rattle.std.specs.Prelude.{◌≡◌, ℕ, ◌<◌, ◌≤◌, ◌^◌, List, Option, IfSome}
use Rattle.sea_base.specs.Faults.{FaultsRose}
use Rattle.sea_journal.specs.declared.journal.ResumeFault.{ResumeFault}
use Rattle.sea_journal.specs.declared.journal.ResumeFault.TheVariants as resumes
use Rattle.std.specs.List.{All}
use Rattle.sea_journal.specs.Log.{IsOfTrail}
use Rattle.sea_journal.specs.Rolls.{HasNumber}
use Rattle.sea_segment.specs.Table.{state_of}
use Rattle.sea_segment.specs.declared.header.Header.{Header}
use Rattle.sea_segment.specs.declared.state.SegState.{SegState}
use Rattle.sea_segment.specs.declared.state.SegState.TheVariants.{Active, Closed}
use Rattle.sea_segment.specs.declared.state.Segment.{Segment}
use Rattle.sea_trail.specs.Trail.{IsTrail, segment_end}
use Rattle.sea_trail.specs.declared.trail.Trail.{Trail}
use Rattle.sea_engine.specs.Opens.{Change, IsShut}
use Rattle.sea_engine.specs.declared.fault.MountFault.{MountFault}
use Rattle.sea_engine.specs.declared.fault.MountFault.TheVariants.{NoMemory, DeviceFault, Refused, Spent as IsSpent, NoSpace}
use Rattle.sea_engine.specs.declared.fault.Number.{Number}
use Rattle.sea_engine.specs.declared.fault.Number.TheVariants.{Commit, Mount, Seq}
use Rattle.sea_engine.specs.declared.fault.Spent.{Spent}
use Rattle.sea_engine.specs.declared.reading.OpenFault.{OpenFault}
use Rattle.sea_engine.specs.declared.reading.OpenFault.TheVariants as opens

-- what a fault of a reading says of an opening, and that of a journal that did not begin
abbrev pub mount_fault : OpenFault → MountFault
mount_fault opens.NoMemory = NoMemory
mount_fault opens.DeviceFault = DeviceFault
mount_fault (opens.Refused why) = Refused why

abbrev pub resume_fault : ResumeFault → MountFault
resume_fault resumes.NoMemory = NoMemory
resume_fault resumes.DeviceFault = DeviceFault
resume_fault resumes.NoSpace = NoSpace

-- ---- numbers that are used up

abbrev pub number_of : Number → ℕ → ℕ → ℕ → ℕ
number_of Commit commit mount seq = commit
number_of Mount commit mount seq = mount
number_of Seq commit mount seq = seq

-- a number is used up from 2^62 on
pub record IsUsedUp (commit mount seq : ℕ) (spent : Spent) : Type 0 where
  pub number : spent.at ≡ number_of spent.which commit mount seq
  pub beyond : 2 ^ 62 ≤ spent.at

pub record AreLeft (commit mount seq : ℕ) : Type 0 where
  pub commits : commit < 2 ^ 62
  pub mounts : mount < 2 ^ 62
  pub seqs : seq < 2 ^ 62

-- a number of the trail of an image is used up
pub record HasUsedUp (image : List ℕ) (spent : Spent) : Type 0 where
  pub trail : Trail
  pub is_trail : IsTrail image trail
  pub used : IsUsedUp trail.commit.0 trail.mount trail.seq spent

-- Why an engine doesn't open: memory ran out, a call of the device failed, the image is shut, a
-- number is used up, or it is full.
abbrev pub IsUnopened : Type 0 → Change → Option (List ℕ) → ℕ → ℕ → MountFault → Type 0
IsUnopened full lays contents before now NoMemory = Unit {0}
IsUnopened full lays contents before now DeviceFault = FaultsRose before now
IsUnopened full lays contents before now (Refused why) =
    IfSome contents (λ image. IsShut lays image why)
IsUnopened full lays contents before now (IsSpent spent) =
    IfSome contents (λ image. HasUsedUp image spent)
IsUnopened full lays contents before now NoSpace = full

-- the open segment of its trail has no block left, and each segment is one of the trail
pub record HasNoSpace (image : List ℕ) : Type 0 where
  pub trail : Trail
  pub is_trail : IsTrail image trail
  pub full : segment_end trail.active ≤ trail.end.0
  pub used : (s : ℕ) → s < trail.segments → (n : ℕ) × IsOfTrail image trail s n

-- ---- the table of segments

-- a header of a segment from the tail of a trail on: no lower segment has its number
pub record IsFromTail (t : Trail) (h : Header) : Type 0 where
  pub within : h.segment < t.segments
  pub late : t.tail.seq ≤ h.seq
  pub least : All (λ k. k.seq ≡ h.seq → h.segment ≤ k.segment) t.headers

-- The segment is one of the trail, and closed unless it is the open one.
pub record IsUsed (image : List ℕ) (t : Trail) (s n : ℕ) (state : SegState) : Type 0 where
  pub of_trail : IsOfTrail image t s n
  pub active : s ≡ t.active → state ≡ Active n
  pub closed : (s ≡ t.active → ⊥) → state ≡ Closed n

-- each segment that is in use is one of the trail
abbrev pub UsesNoOther : List ℕ → Trail → List Segment → Type 0
UsesNoOther image t table =
    (s n : ℕ) → HasNumber (state_of table s) n → IsUsed image t s n (state_of table s)
