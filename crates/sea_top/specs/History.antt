-- Histories of served requests.
use Rattle.std.specs.Prelude.{◌≡◌, ℕ, ◌-◌, ◌≤◌, List, [], ◌∷◌, length, map, filter, nat_eq, Some, slice_get}
use Rattle.std.specs.List.{range_with_len}
use Rattle.sea_plain.specs.declared.op.Op.{Op}
use Rattle.sea_plain.specs.declared.reply.Reply.{Reply}
use Rattle.sea_plain.specs.declared.reply.Reply.TheVariants.{Done, Full}
use Rattle.sea_plain.specs.Objects.{ObjectMap}
use Rattle.sea_plain.specs.Answer.{answer, after}
use Rattle.sea_plain_script.specs.declared.plan.Asked.{Asked}
use Rattle.sea_plain_script.specs.declared.history.Entry.{Entry}

-- the requests of a client, in order
abbrev pub requests_of : ℕ → List Asked → List (List Op)
requests_of client plan = map (λ a. a.request) (filter (λ a. nat_eq client a.client) plan)

-- the numbers of a client's entries, in order
abbrev pub numbers_of : ℕ → List Entry → List ℕ
numbers_of client entries = map (λ e. e.number) (filter (λ e. nat_eq client e.client) entries)

-- The reply is that of a map of objects, or the request didn't fit.
abbrev pub IsReply : Reply → List Op → ObjectMap → Type 0
IsReply (Done items) request objects = Done items ≡ answer request objects
IsReply (Full need rest empty) request objects = Unit {0}

-- the objects after a reply, which a request that didn't fit leaves as they were
abbrev pub after_reply : Reply → List Op → ObjectMap → ObjectMap
after_reply (Done items) request objects = after request objects
after_reply (Full need rest empty) request objects = objects

-- The history is legal from these objects, and leaves those: each entry stands for a request of the plan,
-- with the reply of a map of objects run one request at a time.
pub data Legal (plan : List Asked) : ObjectMap → List Entry → ObjectMap → Type 0 where
  none : {objects : ObjectMap} → Legal plan objects [] objects
  more : {objects last : ObjectMap} {entry : Entry} {entries : List Entry} (request : List Op) → slice_get (requests_of entry.client plan) (entry.number - 1) ≡ Some request → IsReply entry.reply request objects → Legal plan (after_reply entry.reply request objects) entries last → Legal plan objects (entry ∷ entries) last

-- Each client's entries are of its first requests, once each and in order.
pub record Serves (plan : List Asked) (entries : List Entry) : Type 0 where
  pub numbered : (client : ℕ) → numbers_of client entries ≡ range_with_len 1 (length (numbers_of client entries))
  pub asked : (client : ℕ) → length (numbers_of client entries) ≤ length (requests_of client plan)

-- and of all of them
abbrev pub ServesFully : List Asked → List Entry → Type 0
ServesFully plan entries = (client : ℕ) → length (numbers_of client entries) ≡ length (requests_of client plan)
