-- Records: the rules of their fields, and how bytes spell them.
use Rattle.std.specs.Prelude.{◌≡◌, ℕ, ◌+◌, ◌-◌, ◌*◌, ◌/◌, ◌^◌, ◌<◌, ◌≤◌, ◌==◌, if◌then◌else◌, List}
use Rattle.std.specs.Prelude.{◌++◌, length, map, take, replicate}
use Rattle.std.specs.List.{All, flat_map}
use Rattle.sea_base.specs.Digest.{sha256}
use Rattle.sea_base.specs.Field.{big_endian}
use Rattle.sea_base.specs.RootFields.{IsTail, IsRoot}
use Rattle.sea_base.specs.Splice.{IsSplice}
use Rattle.sea_record.specs.Addresses.{AreOrdered}
use Rattle.sea_record.specs.Entries.{mark_bytes, address_bytes, change_bytes, counted}
use Rattle.sea_record.specs.Header.{header_bytes}
use Rattle.sea_record.specs.declared.header.Header.{Header}
use Rattle.sea_record.specs.declared.record.Body.{Body}
use Rattle.sea_record.specs.declared.record.Change.{Change}
use Rattle.sea_record.specs.declared.record.Kind.{Kind}
use Rattle.sea_record.specs.declared.record.Kind.TheVariants.{Mount, Client, Shift, Nodes, Plain}
use Rattle.sea_record.specs.declared.record.Placed.{Placed}
use Rattle.sea_record.specs.declared.record.Record.{Record}

-- ---- the rules of the fields

-- how many addresses are placed, dropped or changed
abbrev pub listed : Body → ℕ
listed body = length body.placed + length body.dropped + length body.changes

-- a mount record holds nothing
pub record IsMount (body : Body) : Type 0 where
  pub listed : listed body ≡ 0
  pub nodes : length body.nodes ≡ 0
  pub plain : length body.plain ≡ 0

-- A client's record places, drops or changes at least one address. What it places has its own
-- number.
pub record IsClient (commit : ℕ) (body : Body) : Type 0 where
  pub some : 1 ≤ listed body
  pub versions : All (λ p. p.version.0 ≡ commit) body.placed
  pub nodes : length body.nodes ≡ 0
  pub plain : length body.plain ≡ 0

-- A shift places 1 to 32 extents again, which keep the version that an earlier record gave them.
pub record IsShift (commit : ℕ) (body : Body) : Type 0 where
  pub few : (1 ≤ length body.placed) × (length body.placed ≤ 32)
  pub versions : All (λ p. (1 ≤ p.version.0) × (p.version.0 < commit)) body.placed
  pub alone : length body.dropped + length body.changes ≡ 0
  pub nodes : length body.nodes ≡ 0
  pub plain : length body.plain ≡ 0

-- a record of nodes has at most 35, and nothing else
pub record IsNodes (body : Body) : Type 0 where
  pub few : length body.nodes ≤ 35
  pub listed : listed body ≡ 0
  pub plain : length body.plain ≡ 0

-- a plain record has a byte or more, and nothing else
pub record IsPlain (body : Body) : Type 0 where
  pub some : 1 ≤ length body.plain
  pub listed : listed body ≡ 0
  pub nodes : length body.nodes ≡ 0

-- what a body holds is what its kind may hold, in a record of this number
abbrev pub IsOfKind : Kind → ℕ → Body → Type 0
IsOfKind Mount commit body = IsMount body
IsOfKind Client commit body = IsClient commit body
IsOfKind Shift commit body = IsShift commit body
IsOfKind Nodes commit body = IsNodes body
IsOfKind Plain commit body = IsPlain body

-- a placed extent is a block with its sum
pub record IsPlaced (placed : Placed) : Type 0 where
  pub block : length placed.block ≡ 4096
  pub sum : (placed.sum.0 < 2 ^ 64) × (big_endian 8 placed.sum.0 ≡ take 8 (sha256 placed.block))

abbrev pub IsBlock : List ℕ → Type 0
IsBlock bytes = length bytes ≡ 4096

abbrev pub IsChange : Change → Type 0
IsChange change = IsSplice change.delta.cut change.delta.gone change.delta.put

abbrev pub placed_at : Body → List ℕ
placed_at body = map (λ p. p.at.0) body.placed

abbrev pub dropped_at : Body → List ℕ
dropped_at body = map (λ a. a.0) body.dropped

abbrev pub changed_at : Body → List ℕ
changed_at body = map (λ c. c.at.0) body.changes

abbrev pub HasAddresses : ℕ → Body → Type 0
HasAddresses next body = AreOrdered next (placed_at body) (dropped_at body) (changed_at body)

-- The metadata. Where nothing is placed, dropped or changed it is the plain bytes, which only a
-- plain record has.
unfoldable pub metadata : Body → List ℕ
metadata body =
    if listed body == 0 then body.plain
    else counted (λ p. mark_bytes p.at.0 p.version.0 p.sum.0) body.placed
    ++ counted address_bytes body.dropped ++ counted change_bytes body.changes

-- the blocks behind the header: those placed, in order, and then the nodes
abbrev pub payload : Body → List ℕ
payload body = flat_map (λ p. p.block) body.placed ++ flat_map (λ n. n) body.nodes

abbrev pub payload_blocks : Body → ℕ
payload_blocks body = length body.placed + length body.nodes

abbrev pub metadata_blocks : Body → ℕ
metadata_blocks body = (length (metadata body) + 4095) / 4096

-- the blocks of a record with this body
abbrev pub blocks : Body → ℕ
blocks body = 1 + payload_blocks body + metadata_blocks body

-- what may be a record
pub record IsRecord (r : Record) : Type 0 where
  pub mount : (1 ≤ r.mount) × (r.mount < 2 ^ 63)
  pub seq : (1 ≤ r.seq) × (r.seq < 2 ^ 63)
  pub place : r.place.0 < 2 ^ 24
  pub commit : (1 ≤ r.commit.0) × (r.commit.0 < 2 ^ 63)
  pub tail : IsTail r.tail
  pub root : IsRoot r.root
  pub prev : length r.prev.0 ≡ 32
  pub kind : IsOfKind r.body.kind r.commit.0 r.body
  pub placed : All IsPlaced r.body.placed
  pub nodes : All IsBlock r.body.nodes
  pub changes : All IsChange r.body.changes
  pub addresses : HasAddresses r.root.next.0 r.body
  pub few : blocks r.body ≤ 1024

-- ---- the spelling

-- the header of a record with this digest in the place of its own
abbrev pub header_of : Record → List ℕ → Header
header_of r digest = record {
  kind = r.body.kind;
  mount = r.mount;
  seq = r.seq;
  place = r.place;
  payload = payload_blocks r.body;
  blocks = metadata_blocks r.body;
  bytes = length (metadata r.body);
  commit = r.commit;
  tail = r.tail;
  root = r.root;
  prev = r.prev;
  digest = record { 0 = digest };
}

-- so many zeros
unfoldable pub zeros : ℕ → List ℕ
zeros n = replicate n 0

-- Header, payload and metadata, each in whole blocks with zeros at its end.
unfoldable pub sealed : Record → List ℕ → List ℕ
sealed r digest =
    header_bytes (header_of r digest) ++ zeros 3920 ++ payload r.body ++ metadata r.body
    ++ zeros (4096 * metadata_blocks r.body - length (metadata r.body))

-- A record's digest is taken over all its blocks with zeros in its own place.
unfoldable pub own_digest : Record → List ℕ
own_digest r = sha256 (sealed r (replicate 32 0))

-- the one spelling of a record
unfoldable pub record_bytes : Record → List ℕ
record_bytes r = sealed r (own_digest r)

-- the bytes begin with this record's spelling
pub record BeginsWith (bytes : List ℕ) (r : Record) : Type 0 where
  pub is_record : IsRecord r
  pub behind : List ℕ
  pub spelled : bytes ≡ record_bytes r ++ behind

-- and with no record's
abbrev pub BeginsWithNone : List ℕ → Type 0
BeginsWithNone bytes = (r : Record) → BeginsWith bytes r → ⊥
