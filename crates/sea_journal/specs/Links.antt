-- Records one behind the other, as they are made and as they stand.
use Rattle.std.specs.Prelude.{◌≡◌, ℕ, ◌+◌, ◌*◌, List, [], ◌∷◌, ◌++◌, drop, replicate}
use Rattle.std.specs.List.{flat_map}
use Rattle.sea_record.specs.Record.{IsRecord, blocks, record_bytes}
use Rattle.sea_record.specs.declared.record.Record.{Record}
use Rattle.sea_trail.specs.Trail.{Continues, link_of, mount_after}
use Rattle.sea_trail.specs.declared.link.Link.{Link}

-- a record that was made to go on from a link, at this block of a segment with this number
pub record IsNext (place seq : ℕ) (link : Link) (r : Record) : Type 0 where
  pub is_record : IsRecord r
  pub same_segment : r.seq ≡ seq
  pub in_place : r.place.0 ≡ place
  pub commit : r.commit.0 ≡ link.commit.0 + 1
  pub mount : r.mount ≡ mount_after r.body.kind link.mount
  pub prev : r.prev.0 ≡ link.digest.0

-- and several, each from the one before
abbrev pub Linked : ℕ → ℕ → Link → List Record → Type 0
Linked place seq link [] = Unit {0}
Linked place seq link (r ∷ rs) =
    IsNext place seq link r × Linked (place + blocks r.body) seq (link_of r) rs

-- These records stand in a row from a place on. More may go on behind them.
abbrev pub StandInRow : List ℕ → ℕ → ℕ → Link → List Record → Type 0
StandInRow bytes place seq link [] = Unit {0}
StandInRow bytes place seq link (r ∷ rs) =
    Continues bytes place seq link r
    × StandInRow (drop (4096 * blocks r.body) bytes) (place + blocks r.body) seq (link_of r) rs

-- the bytes of records, and behind some a block of zeros
abbrev pub queue_bytes : List Record → List ℕ
queue_bytes [] = []
queue_bytes (r ∷ rs) = flat_map record_bytes (r ∷ rs) ++ replicate 4096 0
