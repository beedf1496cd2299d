-- The records of an image, and the objects that it opens to.
use Rattle.std.specs.Prelude.{◌≡◌, ℕ, ◌+◌, ◌*◌, ◌≤◌, List, [], ◌∷◌, ◌++◌, length, drop, replicate, Result, IsErrOf}
use Rattle.std.specs.List.{flat_map}
use Rattle.std.specs.FinMap as map
use Rattle.sea_device.specs.Device.{FaultsRose}
use Rattle.sea_plain.specs.Objects.{ObjectMap, object_at}
use Rattle.sea_plain.specs.Answer.{laid}
use Rattle.sea_top.specs.declared.record.Piece.{Piece}
use Rattle.sea_top.specs.declared.record.PlainRecord.{PlainRecord}
use Rattle.sea_top.specs.declared.trail.Found.{Found}
use Rattle.sea_top.specs.declared.trail.Trail.{Trail}
use Rattle.sea_top.specs.declared.trail.TrailFault.{TrailFault}
use Rattle.sea_top.specs.declared.trail.TrailFault.TheVariants.{DeviceFault}
use Rattle.sea_top.specs.Record.{IsPlain, BeginsWith, blocks_of, digest_of}

-- the bytes from a block on begin with this record's spelling
abbrev pub StandsAt : List ℕ → ℕ → PlainRecord → Type 0
StandsAt image place plain = BeginsWith (drop (4096 * place) image) plain

-- a record that stands there and has this commit number, and the digest of the record before it
pub record Continues (image : List ℕ) (place commit : ℕ) (previous : List ℕ) (plain : PlainRecord) : Type 0 where
  pub stands : StandsAt image place plain
  pub numbered : plain.commit.0 ≡ commit
  pub linked : plain.previous.0 ≡ previous

-- the longest chain of records from a block on, each at the block after the one before
abbrev pub IsChain : List ℕ → ℕ → ℕ → List ℕ → List PlainRecord → Type 0
IsChain image place commit previous [] = (plain : PlainRecord) → Continues image place commit previous plain → ⊥
IsChain image place commit previous (plain ∷ records) =
    Continues image place commit previous plain × IsChain image (place + blocks_of plain.pieces) (commit + 1) (digest_of plain) records

-- The trail of an image begins at block 0 with commit number 1, and names zeros as the digest before it.
abbrev pub IsTrail : List ℕ → List PlainRecord → Type 0
IsTrail image records = IsChain image 0 1 (replicate 32 0) records

-- the block behind records that follow one another from a block on
abbrev pub chain_end : ℕ → List PlainRecord → ℕ
chain_end place [] = place
chain_end place (plain ∷ records) = chain_end (place + blocks_of plain.pieces) records

-- the digest of the last record, or the one before the first where there is none
abbrev pub last_digest : List ℕ → List PlainRecord → List ℕ
last_digest previous [] = previous
last_digest previous (plain ∷ records) = last_digest (digest_of plain) records

-- Records that may follow one another: commit numbers count on, and each names the digest of the one before it.
abbrev pub Linked : ℕ → List ℕ → List PlainRecord → Type 0
Linked commit previous [] = Unit {0}
Linked commit previous (plain ∷ records) =
    IsPlain plain × (plain.commit.0 ≡ commit) × (plain.previous.0 ≡ previous) × Linked (commit + 1) (digest_of plain) records

-- the objects after a piece
abbrev pub after_piece : Piece → ObjectMap → ObjectMap
after_piece piece objects =
    map.insert objects piece.name (record (object_at objects piece.name) { bytes = laid piece.offset piece.bytes (object_at objects piece.name).bytes })

-- the objects after pieces, in order
abbrev pub after_pieces : List Piece → ObjectMap → ObjectMap
after_pieces [] objects = objects
after_pieces (piece ∷ pieces) objects = after_pieces pieces (after_piece piece objects)

-- the pieces of records, in order
abbrev pub pieces_of : List PlainRecord → List Piece
pieces_of records = flat_map (λ plain. plain.pieces) records

-- the objects after the pieces of records, from none
abbrev pub objects_of : List PlainRecord → ObjectMap
objects_of records = after_pieces (pieces_of records) map.empty

-- the image opens to these objects: those after the pieces of its trail, from none
pub record Opens (image : List ℕ) (objects : ObjectMap) : Type 0 where
  pub records : List PlainRecord
  pub trail : IsTrail image records
  pub objects_are : objects ≡ objects_of records

-- no record stands there
abbrev pub NoneStandsAt : List ℕ → ℕ → Type 0
NoneStandsAt image place = (plain : PlainRecord) → StandsAt image place plain → ⊥

-- no record goes on there
abbrev pub NoneContinues : List ℕ → ℕ → ℕ → List ℕ → Type 0
NoneContinues image place commit previous =
    (plain : PlainRecord) → Continues image place commit previous plain → ⊥

-- what is told of a record that was found
pub record IsFound (found : Found) : Type 0 where
  pub plain_record : IsPlain found.plain
  pub digest : found.digest.0 ≡ digest_of found.plain
  pub blocks : found.blocks ≡ blocks_of found.plain.pieces
  pub some : 1 ≤ found.blocks

-- Whole blocks that a record that stands there lies in.
pub record HoldsRecord (image : List ℕ) (place : ℕ) (bytes : List ℕ) : Type 0 where
  pub behind : List ℕ
  pub cut : drop (4096 * place) image ≡ bytes ++ behind
  pub whole : (plain : PlainRecord) → StandsAt image place plain → BeginsWith bytes plain

-- A reading blames the device only where the device's count of faults rose, and the count never falls.
pub record BlamesDevice {T : Type 0} (before now : ℕ) (result : Result T TrailFault) : Type 0 where
  pub later : before ≤ now
  pub device : IsErrOf result DeviceFault → FaultsRose before now

-- the end of an image's trail, the next commit number, the last digest, and the objects
pub record IsTrailOf (trail : Trail) (image : List ℕ) : Type 0 where
  pub records : List PlainRecord
  pub is_trail : IsTrail image records
  pub end : trail.end ≡ chain_end 0 records
  pub commit : trail.commit ≡ length records + 1
  pub previous : trail.previous.0 ≡ last_digest (replicate 32 0) records
  pub objects : trail.objects ≡ after_pieces (pieces_of records) map.empty
