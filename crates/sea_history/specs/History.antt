-- Histories of served requests: which are legal, what objects they leave, and what of a plan they serve.
use Rattle.std.specs.Prelude.{◌≡◌, ℕ, ◌-◌, ◌≤◌, List, [], ◌∷◌, length, map, filter, nat_eq, Some, slice_get}
use Rattle.std.specs.List.{range_with_len}
use Rattle.sea_object.specs.declared.op.Op.{Op}
use Rattle.sea_object.specs.declared.reply.Reply.{Reply}
use Rattle.sea_object.specs.declared.reply.Reply.TheVariants.{Done, Refused, Full}
use Rattle.sea_object.specs.Objects.{ObjectMap}
use Rattle.sea_object.specs.Answer.{answer, after}
use Rattle.sea_history.specs.Plan.{Requests, requests_of}
use Rattle.sea_history.specs.declared.history.Entry.{Entry}

-- the numbers of a client's entries, in order
abbrev pub numbers_of : ℕ → List Entry → List ℕ
numbers_of client entries = map (λ e. e.number) (filter (λ e. nat_eq client e.client) entries)

-- the entry stands for the client's request of that number
abbrev pub StandsFor : Requests → Entry → List Op → Type 0
StandsFor plan entry request =
    (1 ≤ entry.client) × (1 ≤ entry.number) × (slice_get (requests_of entry.client plan) (entry.number - 1) ≡ Some request)

-- The reply is that of a map of objects, or there was no room for the request.
abbrev pub IsReply : Reply → List Op → ObjectMap → Type 0
IsReply (Full need rest empty) request objects = Unit {0}
IsReply reply request objects = reply ≡ answer request objects

-- the objects after a reply: only a request that is done changes them
abbrev pub after_reply : Reply → List Op → ObjectMap → ObjectMap
after_reply (Done items) request objects = after request objects
after_reply (Refused op why) request objects = objects
after_reply (Full need rest empty) request objects = objects

-- The history is legal from these objects, and leaves those: each entry stands for a request of the plan,
-- with the reply of a map of objects run one request at a time.
pub data Legal (plan : Requests) : ObjectMap → List Entry → ObjectMap → Type 0 where
  none : {objects : ObjectMap} → Legal plan objects [] objects
  more : {objects last : ObjectMap} {entry : Entry} {entries : List Entry} (request : List Op) → StandsFor plan entry request → IsReply entry.reply request objects → Legal plan (after_reply entry.reply request objects) entries last → Legal plan objects (entry ∷ entries) last

-- each client's entries have the numbers from 1 on, in order
abbrev pub AreNumbered : List Entry → Type 0
AreNumbered entries =
    (client : ℕ) → numbers_of client entries ≡ range_with_len 1 (length (numbers_of client entries))

-- Each client's entries are of its first requests, once each and in order.
pub record Serves (plan : Requests) (entries : List Entry) : Type 0 where
  pub numbered : AreNumbered entries
  pub asked : (client : ℕ) → length (numbers_of client entries) ≤ length (requests_of client plan)

-- and of all of them
abbrev pub ServesFully : Requests → List Entry → Type 0
ServesFully plan entries =
    (client : ℕ) → length (numbers_of client entries) ≡ length (requests_of client plan)
