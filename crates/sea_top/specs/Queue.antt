-- Records that wait behind a trail.
use Rattle.std.specs.Prelude.{◌≡◌, ℕ, ◌+◌, ◌*◌, List, length, replicate, Option, Some}
use Rattle.std.specs.List.{flat_map}
use Rattle.sea_top.specs.declared.queue.Queue.{Queue}
use Rattle.sea_top.specs.declared.record.PlainRecord.{PlainRecord}
use Rattle.sea_top.specs.Record.{spelling}
use Rattle.sea_top.specs.Trail.{IsTrail, Linked, last_digest, chain_end}

-- where records go on: the block, the commit number and the digest before it, and the blocks of the device
pub record Start : Type 0 where
  pub place : ℕ
  pub commit : ℕ
  pub previous : List ℕ
  pub size : ℕ

-- behind the records of a trail
abbrev pub behind : List PlainRecord → ℕ → Start
behind records size =
    record { place = chain_end 0 records; commit = 1 + length records; previous = last_digest (replicate 32 0) records; size = size }

-- these records wait, to go on from there
pub record Waits (start : Start) (queue : Queue) (news : List PlainRecord) : Type 0 where
  pub placed : queue.place.0 ≡ start.place
  pub spelled : queue.bytes.items ≡ flat_map spelling news
  pub linked : Linked start.commit start.previous news
  pub numbered : queue.commit.0 ≡ start.commit + length news
  pub last : queue.previous.0 ≡ last_digest start.previous news
  pub room : 4096 * start.place + length queue.bytes.items + 4096 * queue.rest ≡ 4096 * start.size

-- The device holds an image with this trail, and a crash leaves no other.
pub record Keeps (records : List PlainRecord) (contents : Option (List ℕ)) (leaves : List ℕ → Type 0) : Type 0 where
  pub image : List ℕ
  pub held : contents ≡ Some image
  pub trail : IsTrail image records
  pub only : (c : List ℕ) → leaves c → c ≡ image
