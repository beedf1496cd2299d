-- What the parts of a record that are read stand for.
use Rattle.std.specs.Prelude.{◌≡◌, ℕ, ◌+◌, ◌*◌, ◌/◌, ◌^◌, ◌<◌, ◌≤◌, ◌==◌, if◌then◌else◌, List, ◌++◌}
use Rattle.std.specs.Prelude.{length, take, drop, replicate, map, slice_range}
use Rattle.std.specs.List.{All}
use Rattle.sea_base.specs.Digest.{sha256}
use Rattle.sea_record.specs.Entries.{mark_bytes, address_bytes, change_bytes, counted}
use Rattle.sea_record.specs.EntryLaws.{IsMark, IsAddress, IsListed}
use Rattle.sea_base.specs.Field.{big_endian}
use Rattle.sea_record.specs.Header.{header_bytes, IsHeader}
use Rattle.sea_record.specs.Record.{IsBlock, metadata, blocks, header_of, record_bytes}
use Rattle.sea_record.specs.declared.entry.Mark.{Mark}
use Rattle.sea_record.specs.declared.header.Header.{Header}
use Rattle.sea_record.specs.declared.lists.Metadata.{Metadata}
use Rattle.sea_record.specs.declared.record.Kind.{Kind}
use Rattle.sea_record.specs.declared.record.Kind.TheVariants.{Plain}
use Rattle.sea_record.specs.declared.record.Body.{Body}
use Rattle.sea_record.specs.declared.record.Placed.{Placed}
use Rattle.sea_record.specs.declared.record.Record.{Record}

-- the bytes are these of an entry, and the rest
abbrev pub Begins : {A : Type 0} → (A → Type 0) → (A → List ℕ) → List ℕ → A → List ℕ → Type 0
Begins fits spelled bytes x rest = fits x × (bytes ≡ spelled x ++ rest)

abbrev pub BeginsWithNo : {A : Type 0} → (A → Type 0) → (A → List ℕ) → List ℕ → Type 0
BeginsWithNo {A} fits spelled bytes =
    (x : A) (rest : List ℕ) → fits x → bytes ≡ spelled x ++ rest → ⊥

-- the bytes are those of a list, and the rest
pub record BeginsWithList {A : Type 0} (fits : A → Type 0) (spelled : A → List ℕ)
    (bytes : List ℕ) (items : List A) (rest : List ℕ) : Type 0 where
  pub few : length items < 2 ^ 32
  pub all : All fits items
  pub is : bytes ≡ counted spelled items ++ rest

abbrev pub BeginsWithNoList : {A : Type 0} → (A → Type 0) → (A → List ℕ) → List ℕ → Type 0
BeginsWithNoList {A} fits spelled bytes =
    (items : List A) (rest : List ℕ) → BeginsWithList fits spelled bytes items rest → ⊥

abbrev pub spelled_mark : Mark → List ℕ
spelled_mark m = mark_bytes m.at.0 m.version.0 m.sum.0

-- how many addresses the metadata lists
abbrev pub listed_in : Metadata → ℕ
listed_in m = length m.marks + length m.dropped + length m.changes

-- the bytes of metadata
unfoldable pub spelled_metadata : Metadata → List ℕ
spelled_metadata m =
    if listed_in m == 0 then m.plain
    else counted spelled_mark m.marks ++ counted address_bytes m.dropped
    ++ counted change_bytes m.changes

-- the bytes are those of this metadata in a record of this kind
pub record IsMetadata (kind : Kind) (bytes : List ℕ) (m : Metadata) : Type 0 where
  pub few : (length m.marks < 2 ^ 32) × (length m.dropped < 2 ^ 32) × (length m.changes < 2 ^ 32)
  pub marks : All IsMark m.marks
  pub dropped : All IsAddress m.dropped
  pub changes : All IsListed m.changes
  pub plain_alone : kind ≡ Plain → listed_in m ≡ 0
  pub no_plain : (kind ≡ Plain → ⊥) → length m.plain ≡ 0
  pub is : bytes ≡ spelled_metadata m

abbrev pub IsNoMetadata : Kind → List ℕ → Type 0
IsNoMetadata kind bytes = (m : Metadata) → IsMetadata kind bytes m → ⊥

-- what the metadata says of a placed extent
abbrev pub mark_of : Placed → Mark
mark_of p = record { at = p.at; version = p.version; sum = p.sum }

-- the bytes are this header's and others behind it
abbrev pub BeginsWithHeader : List ℕ → Header → Type 0
BeginsWithHeader bytes h = IsHeader h × (bytes ≡ header_bytes h ++ drop 176 bytes)

abbrev pub BeginsWithNoHeader : List ℕ → Type 0
BeginsWithNoHeader bytes =
    (h : Header) (rest : List ℕ) → IsHeader h → bytes ≡ header_bytes h ++ rest → ⊥

-- where a record's metadata begins, where it ends, and where the record does
abbrev pub metadata_at : Header → ℕ
metadata_at h = 4096 * (1 + h.payload)

abbrev pub metadata_end : Header → ℕ
metadata_end h = metadata_at h + h.bytes

abbrev pub record_end : Header → ℕ
record_end h = 4096 * (1 + h.payload + h.blocks)

abbrev pub AreZeros : List ℕ → Type 0
AreZeros xs = xs ≡ replicate (length xs) 0

-- The bytes that begin with a header are a record's, whatever its payload and its metadata: the
-- counts are right, all blocks are there, what no field names is zero, and the digest is right.
pub record IsSealed (bytes : List ℕ) (h : Header) : Type 0 where
  pub few : 1 + h.payload + h.blocks ≤ 1024
  pub counts : h.blocks ≡ (h.bytes + 4095) / 4096
  pub within : record_end h ≤ length bytes
  pub front : AreZeros (slice_range bytes 176 4096)
  pub back : AreZeros (slice_range bytes (metadata_end h) (record_end h))
  pub digest : let whole = take (record_end h) bytes in
      h.digest.0 ≡ sha256 (take 144 whole ++ replicate 32 0 ++ drop 176 whole)

-- what a body's metadata says
abbrev pub metadata_of : Body → Metadata
metadata_of body = record {
  marks = map mark_of body.placed;
  dropped = body.dropped;
  changes = body.changes;
  plain = body.plain;
}

-- The fields have room for what they hold, whatever the rules say.
pub record Fits (r : Record) : Type 0 where
  pub header : IsHeader (header_of r (replicate 32 0))
  pub metadata : IsMetadata r.body.kind (metadata r.body) (metadata_of r.body)
  pub placed : All (λ p. length p.block ≡ 4096) r.body.placed
  pub nodes : All IsBlock r.body.nodes
  pub few : blocks r.body ≤ 1024

-- the bytes begin with the spelling of such a record
pub record IsSpelled (bytes : List ℕ) (r : Record) : Type 0 where
  pub fits : Fits r
  pub behind : List ℕ
  pub spelled : bytes ≡ record_bytes r ++ behind

-- the numbers of a header keep the rules
pub record HasNumbers (r : Record) : Type 0 where
  pub mount : (1 ≤ r.mount) × (r.mount < 2 ^ 63)
  pub seq : (1 ≤ r.seq) × (r.seq < 2 ^ 63)
  pub place : r.place.0 < 2 ^ 24
  pub commit : (1 ≤ r.commit.0) × (r.commit.0 < 2 ^ 63)

-- the sum is the block's
abbrev pub HasSum : Placed → Type 0
HasSum p = big_endian 8 p.sum.0 ≡ take 8 (sha256 p.block)
