-- Serving the requests of one client.
use Rattle.std.specs.Prelude.{◌≡◌, ℕ, ◌≤◌, List, ◌++◌, length, map}
use Rattle.std.specs.List.{AllByRecursion, range_with_len}
use Rattle.sea_plain.specs.Objects.{ObjectMap}
use Rattle.sea_plain_script.specs.declared.plan.Asked.{Asked}
use Rattle.sea_plain_script.specs.declared.history.Entry.{Entry}
use Rattle.sea_top.specs.declared.queue.Queue.{Queue}
use Rattle.sea_top.specs.declared.record.PlainRecord.{PlainRecord}
use Rattle.sea_top.specs.History.{Legal}
use Rattle.sea_top.specs.Queue.{Start, Waits}
use Rattle.sea_top.specs.Room.{KeepsRoom}
use Rattle.sea_top.specs.Trail.{after_pieces, pieces_of}

-- the plan is of client 1 alone
abbrev pub AsksFirst : List Asked → Type 0
AsksFirst plan = AllByRecursion (λ asked. asked.client ≡ 1) plan

-- Client 1 was served its first requests, from these objects and with so many blocks left, which leaves those.
pub record Served (plan : List Asked) (first last : ObjectMap) (rest left : ℕ) (entries : List Entry) : Type 0 where
  pub legal : Legal plan first entries last
  pub room : KeepsRoom plan rest entries left
  pub clients : AllByRecursion (λ entry. entry.client ≡ 1) entries
  pub numbers : map (λ entry. entry.number) entries ≡ range_with_len 1 (length entries)
  pub some : length entries ≤ length plan

-- what the entries changed waits in the queue
abbrev pub Queues : ObjectMap → ObjectMap → Queue → Queue → Type 0
Queues first last old new =
    (start : Start) (news : List PlainRecord) → Waits start old news → (more : List PlainRecord) × Waits start new (news ++ more) × (last ≡ after_pieces (pieces_of more) first)
