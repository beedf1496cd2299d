-- What makes a fresh image, and why none is made.
use Rattle.std.specs.Prelude.{◌≡◌, ◌⊎◌, ℕ, ◌<◌, ◌≤◌, List, [], ◌∷◌, length, replicate, Option, IfSome}
use Rattle.std.specs.Option.{option_map}
use Rattle.sea_base.specs.Faults.{FaultsRose}
use Rattle.sea_base.specs.declared.place.PRoot.{PRoot}
use Rattle.sea_device.specs.declared.device.Device.{Ghosts}
use Rattle.sea_device.specs.Device.{overwritten}
use Rattle.sea_record.specs.Record.{BeginsWithNone}
use Rattle.sea_segment.specs.declared.header.Header.{Header}
use Rattle.sea_segment.specs.Header.{SpellsHeader, header_digest}
use Rattle.sea_segment.specs.Superblock.{SpellsSuper}
use Rattle.sea_journal.specs.Changes.{LeavesItself}
use Rattle.sea_trail.specs.Trail.{IsTrail, header_block, blocks_needed, block_of, body_of}
use Rattle.sea_trail.specs.declared.trail.Trail.{Trail}
use Rattle.sea_journal.specs.declared.fresh.MkfsFault.{MkfsFault}
use Rattle.sea_journal.specs.declared.fresh.MkfsFault.TheVariants.{Short, DeviceFault, NotEmpty, NoMemory}

-- the empty tree of physical nodes
abbrev pub empty_tree : PRoot
empty_tree = record { at = record { 0 = 0 }; height = 0; sum = record { 0 = 0 } }

-- The first header of a fresh image: nothing was mounted or committed, the journal begins behind it,
-- and both trees are empty.
abbrev pub first_header : Header
first_header = record {
  segment = 0;
  mount = 0;
  seq = 1;
  commit = record { 0 = 0 };
  tail = record { seq = 1; place = record { 0 = 2 } };
  root = record { lba = empty_tree; owners = empty_tree; next = record { 0 = 2 } };
  prev = record { 0 = replicate 32 0 };
}

-- the superblock's block, and that of a segment's header
abbrev pub IsFront : ℕ → ℕ → Type 0
IsFront segments at = (at ≡ 0) ⊎ ((s : ℕ) × (s < segments) × (at ≡ header_block s))

-- a block of zeros
abbrev pub IsBlank : List ℕ → ℕ → Type 0
IsBlank image at = block_of image at ≡ replicate (length (block_of image at)) 0

-- no superblock and no header was ever written
abbrev pub AllBlank : ℕ → List ℕ → Type 0
AllBlank segments image = (at : ℕ) → IsFront segments at → IsBlank image at

-- the least of these blocks that isn't all zeros
pub record IsLeastFilled (segments at : ℕ) (image : List ℕ) : Type 0 where
  pub front : IsFront segments at
  pub filled : IsBlank image at → ⊥
  pub least : (k : ℕ) → IsFront segments k → k < at → IsBlank image k

-- Why no image is made of so many segments on a device of this size: it is too short; or it isn't, and
-- a call of it failed, or a block isn't zeros that has to be, or memory ran out.
abbrev pub IsRefused : ℕ → ℕ → ℕ → ℕ → Option (List ℕ) → MkfsFault → Type 0
IsRefused segments size before now contents (Short have need) =
    (have ≡ size) × (need ≡ blocks_needed segments) × (have < need) × (now ≡ before)
IsRefused segments size before now contents DeviceFault =
    (blocks_needed segments ≤ size) × FaultsRose before now
IsRefused segments size before now contents (NotEmpty block) =
    (blocks_needed segments ≤ size) × IfSome contents (IsLeastFilled segments block.0)
    × (now ≡ before)
IsRefused segments size before now contents NoMemory =
    (blocks_needed segments ≤ size) × (now ≡ before)

-- What is left of a device that was long enough and empty: the superblock and the first header, and
-- all else as it was; a crash leaves this image alone, and no call failed.
pub record IsFresh {D : Type 0} (segments : ℕ) (g : Ghosts D) (old new : D) : Type 0 where
  pub fits : blocks_needed segments ≤ g.size old
  pub blank : IfSome (g.contents old) (AllBlank segments)
  pub superblock : List ℕ
  pub header : List ℕ
  pub is_super : SpellsSuper superblock segments
  pub is_header : SpellsHeader header first_header
  pub written : g.contents new
      ≡ option_map (λ b. overwritten 0 superblock (overwritten 4096 header b)) (g.contents old)
  pub alone : LeavesItself g new
  pub faults : g.faults new ≡ g.faults old

-- the device was found too short or not empty
abbrev pub IsFoundUnfit : MkfsFault → Type 0
IsFoundUnfit (Short have need) = Unit {0}
IsFoundUnfit DeviceFault = ⊥
IsFoundUnfit (NotEmpty block) = Unit {0}
IsFoundUnfit NoMemory = ⊥

-- the trail of a fresh image: one header, and no record
abbrev pub fresh_trail : ℕ → Trail
fresh_trail segments = record {
  segments = segments;
  active = 0;
  seq = 1;
  end = record { 0 = 2 };
  mount = 0;
  commit = record { 0 = 0 };
  last = record { 0 = header_digest first_header };
  tail = first_header.tail;
  root = first_header.root;
  records = [];
  headers = first_header ∷ [];
}

-- An image that was made over one without a record in segment 0 has that trail.
abbrev pub HasFreshTrail : ℕ → List ℕ → List ℕ → Type 0
HasFreshTrail segments old new = BeginsWithNone (body_of old 0) → IsTrail new (fresh_trail segments)
