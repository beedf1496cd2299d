-- What a crash leaves of a run: the objects after the first entries of its history.
use Rattle.std.specs.Prelude.{◌≡◌, ◌⊎◌, ℕ, ◌+◌, ◌-◌, ◌≤◌, List, [], ◌∷◌, length, map, take, replicate, Option, Some, slice_get, unwrap_or}
use Rattle.std.specs.List.{flat_map}
use Rattle.sea_device.specs.declared.device.Device.{Ghosts}
use Rattle.sea_device.specs.Device.{Follows}
use Rattle.sea_plain.specs.declared.op.Op.{Op}
use Rattle.sea_plain.specs.declared.reply.Reply.{Reply}
use Rattle.sea_plain.specs.declared.reply.Reply.TheVariants.{Done, Full}
use Rattle.sea_plain.specs.Objects.{ObjectMap}
use Rattle.sea_plain_script.specs.declared.plan.Asked.{Asked}
use Rattle.sea_plain_script.specs.declared.history.Entry.{Entry}
use Rattle.sea_top.specs.declared.record.Piece.{Piece}
use Rattle.sea_top.specs.declared.record.PlainRecord.{PlainRecord}
use Rattle.sea_top.specs.History.{Legal, requests_of}
use Rattle.sea_top.specs.Pieces.{pieces_asked}
use Rattle.sea_top.specs.Record.{blocks_of, digest_of}
use Rattle.sea_top.specs.Trail.{IsTrail, Linked, NoneContinues, Opens, StandsAt, after_pieces, chain_end, last_digest, pieces_of}

-- Of an image that new records were to go on in: where the first of them stand whole, up to the one that doesn't,
-- no other record goes on behind these.
abbrev pub IsClear : List ℕ → ℕ → ℕ → List ℕ → List PlainRecord → Type 0
IsClear image place commit previous [] = NoneContinues image place commit previous
IsClear image place commit previous (plain ∷ news) =
    (StandsAt image place plain × IsClear image (place + blocks_of plain.pieces) (commit + 1) (digest_of plain) news) ⊎ ((StandsAt image place plain → ⊥) × NoneContinues image place commit previous)

-- it is clear behind the records of a trail
abbrev pub IsClearBehind : List PlainRecord → List PlainRecord → List ℕ → Type 0
IsClearBehind records news image =
    IsClear image (chain_end 0 records) (1 + length records) (last_digest (replicate 32 0) records) news

-- the pieces of the one record that these make, and of none where there is none
abbrev pub record_of : List Piece → List (List Piece)
record_of [] = []
record_of (piece ∷ pieces) = (piece ∷ pieces) ∷ []

-- the pieces of the record of a request that was answered so: a request that writes nothing or didn't fit has none
abbrev pub log_of : Reply → List Op → List (List Piece)
log_of (Done items) request = record_of (pieces_asked request)
log_of (Full need rest empty) request = []

-- the request that an entry answers
abbrev pub answered_by : List Asked → Entry → List Op
answered_by plan entry = unwrap_or (slice_get (requests_of entry.client plan) (entry.number - 1)) []

-- the pieces of the records of a history
abbrev pub log_pieces : List Asked → List Entry → List (List Piece)
log_pieces plan entries = flat_map (λ entry. log_of entry.reply (answered_by plan entry)) entries

-- These are the records of a history; and what the first of them leave is what the first entries leave.
pub record IsLog (plan : List Asked) (first : ObjectMap) (entries : List Entry) (news : List PlainRecord) : Type 0 where
  pub pieces : map (λ plain. plain.pieces) news ≡ log_pieces plan entries
  pub prefixes : (j : ℕ) → j ≤ length news → (n : ℕ) × (n ≤ length entries) × Legal plan first (take n entries) (after_pieces (pieces_of (take j news)) first)

-- one image has the front of another, up to a place
abbrev pub SameFront : ℕ → List ℕ → List ℕ → Type 0
SameFront at old new = take at new ≡ take at old

-- A device changed behind a place alone: its bytes, and what a crash may leave now or may have left since, keep the
-- front of what was there before.
pub record ChangesBehind {D : Type 0} (at : ℕ) (g : Ghosts D) (old new : D) : Type 0 where
  pub contents : (b c : List ℕ) → g.contents old ≡ Some b → g.contents new ≡ Some c → SameFront at b c
  pub images : Follows (SameFront at) (g.may_leave old) (g.may_leave new)
  pub later : g.clock old ≤ g.clock new
  pub moments : (t : ℕ) (c : List ℕ) → t ≤ g.clock old → g.left_since new t c → g.left_since old t c ⊎ ((d : List ℕ) × g.may_leave old d × SameFront at d c)
  -- a crash since t may have left what it might have left before, or what it may have left since any later moment u
  -- of the old device
  pub later_ones : (t u : ℕ) (c : List ℕ) → t ≤ u → u ≤ g.clock old → g.left_since new t c → g.left_since old t c ⊎ g.left_since new u c
  pub keeps : (t : ℕ) (c : List ℕ) → t ≤ g.clock old → g.left_since old t c → g.left_since new t c

-- The image opens to the objects after the first entries of a history, at least so many of them.
pub record OpensToPrefix (plan : List Asked) (first : ObjectMap) (history : List Entry) (least : ℕ) (image : List ℕ) : Type 0 where
  pub entries : ℕ
  pub held : least ≤ entries
  pub within : entries ≤ length history
  pub objects : ObjectMap
  pub legal : Legal plan first (take entries history) objects
  pub opens : Opens image objects

-- What a crash leaves of a run over an image, which went on from start to now: as it returned with these bytes, before
-- it, and since a moment.
pub record Crashes (image : List ℕ) (plan : List Asked) (first : ObjectMap) (history : List Entry) (acknowledged : ℕ) (contents : Option (List ℕ)) (leaves before : List ℕ → Type 0) (start now : ℕ) (since : ℕ → List ℕ → Type 0) : Type 0 where
  pub records : List PlainRecord
  pub trail : IsTrail image records
  -- the records of the history, which go on behind those of the image
  pub news : List PlainRecord
  pub linked : Linked (1 + length records) (last_digest (replicate 32 0) records) news
  pub logged : map (λ plain. plain.pieces) news ≡ log_pieces plan history
  -- when the opening had made the image stable: till then a crash leaves what it might have left before the call
  pub opened : ℕ
  pub after_start : start ≤ opened
  pub before_return : opened ≤ now
  pub opening : (c : List ℕ) → since start c → before c ⊎ since opened c
  -- from then on each clear image opens to a prefix
  pub moments : (c : List ℕ) → since opened c → IsClearBehind records news c → OpensToPrefix plan first history 0 c
  -- as the call returns, to a prefix that holds each acknowledged entry
  pub returned : (c : List ℕ) → leaves c → IsClearBehind records news c → OpensToPrefix plan first history acknowledged c
  pub bytes : (b : List ℕ) → contents ≡ Some b → IsClearBehind records news b → OpensToPrefix plan first history acknowledged b

-- Nothing was written: the bytes are those that came in, and a crash leaves nothing that it might not have left before.
pub record IsUnwritten (image : List ℕ) (contents : Option (List ℕ)) (leaves before since : List ℕ → Type 0) : Type 0 where
  pub bytes : contents ≡ Some image
  pub moments : (c : List ℕ) → since c → before c
  pub returned : (c : List ℕ) → leaves c → before c
