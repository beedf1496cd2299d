-- Turns of clients: what a step of one of them changes, and what a sync does.
use Rattle.std.specs.Prelude.{◌≡◌, ◌≢◌, ℕ, ◌+◌, ◌-◌, ◌<◌, ◌≤◌, ◌⊎◌, List, [], ◌∷◌, ◌++◌}
use Rattle.std.specs.Prelude.{Bool, true, false, cond, Option, Some, None, nat_eq}
use Rattle.std.specs.Prelude.{length, drop, map, set, count_by, slice_get, slice_index_or}
use Rattle.sea_object.specs.declared.op.Op.{Op}
use Rattle.sea_object.specs.declared.reply.Item.{Item}
use Rattle.sea_object.specs.declared.reply.Reply.{Reply}
use Rattle.sea_object.specs.declared.reply.Reply.TheVariants.{Done, Refused, Full}
use Rattle.sea_object.specs.declared.reply.Why.{Why}
use Rattle.sea_history.specs.Plan.{Requests, IsClientOf, requests_of}
use Rattle.sea_history.specs.Record.{count_of}
use Rattle.sea_history.specs.declared.history.Entry.{Entry}

-- Where a client stands: all its requests are entered; its next one waits; so many operations of it
-- are done, since it began at this length of the history; or its reply stands ready.
pub data Phase : Type 0 where
  idle : Phase
  waiting : Phase
  running : (done began : ℕ) → Phase
  ready : (began : ℕ) (reply : Reply) → Phase

-- The requests and the phase of each client, what was entered, how much of it is acknowledged, and
-- how often a client was sent back.
pub record Turns : Type 0 where
  pub plan : Requests
  pub phases : List Phase
  pub history : List Entry
  pub acknowledged : ℕ
  pub sent_back : ℕ

-- the phase of a client; one that is not of the plan is idle
abbrev pub phase_of : ℕ → Turns → Phase
phase_of client turns = slice_index_or (idle ∷ turns.phases) client idle

abbrev pub in_phase : ℕ → Phase → Turns → Turns
in_phase client phase turns = record turns { phases = set turns.phases (client - 1) phase }

-- the client's request after so many of them
abbrev pub request_after : ℕ → ℕ → Requests → Option (List Op)
request_after client served plan = slice_get (requests_of client plan) served

-- the client's next request
abbrev pub next_of : ℕ → Turns → Option (List Op)
next_of client turns = request_after client (count_of client turns.history) turns.plan

-- the phase of a client that is not at work, by its next request
abbrev pub at_rest : Option (List Op) → Phase
at_rest None = idle
at_rest (Some request) = waiting

-- ---- the start

-- the phases of clients of whose requests none is entered
abbrev pub first_phase : List (List Op) → Phase
first_phase requests = at_rest (slice_get requests 0)

abbrev pub opened : Requests → Turns
opened plan = record {
  plan = plan;
  phases = map first_phase plan;
  history = [];
  acknowledged = 0;
  sent_back = 0;
}

-- ---- a client is sent back

abbrev pub is_done : Reply → Bool
is_done (Done items) = true
is_done (Refused op why) = false
is_done (Full need rest empty) = false

-- whether a request of another client was done
abbrev pub is_done_by_other : ℕ → Entry → Bool
is_done_by_other client entry = cond (nat_eq client entry.client) false (is_done entry.reply)

-- how many requests of other clients were done
abbrev pub done_by_others : ℕ → List Entry → ℕ
done_by_others client entries = count_by (is_done_by_other client) entries

-- A request of another client was done since this one began, and its request waits again.
pub record IsSentBack (client began : ℕ) (before after : Turns) : Type 0 where
  pub overtaken : 1 ≤ done_by_others client (drop began before.history)
  pub changed : after ≡ record (in_phase client waiting before) { sent_back = before.sent_back + 1 }

-- ---- a client goes on

-- One operation more of a request is done: others are left, it was the last, or it was refused.
pub data Does (request : List Op) (done began : ℕ) (phase : Phase) : Type 0 where
  goes_on : done + 1 < length request → phase ≡ running (done + 1) began → Does request done began phase
  ends : (items : List Item) → done + 1 ≡ length request → phase ≡ ready began (Done items) → Does request done began phase
  is_refused : (why : Why) → done < length request → phase ≡ ready began (Refused (done + 1) why) → Does request done began phase

-- An operation more of the client's next request is done.
pub record Executes (client done began : ℕ) (before after : Turns) : Type 0 where
  pub request : List Op
  pub next : next_of client before ≡ Some request
  pub phase : Phase
  pub does : Does request done began phase
  pub changed : after ≡ in_phase client phase before

-- the client's next request is entered with this reply
abbrev pub entry_of : ℕ → Reply → Turns → Entry
entry_of client reply turns =
    record { client = client; number = count_of client turns.history + 1; reply = reply }

abbrev pub entered : ℕ → Reply → Turns → Turns
entered client reply turns =
    let served = count_of client turns.history + 1 in
    record (in_phase client (at_rest (request_after client served turns.plan)) turns) {
      history = turns.history ++ entry_of client reply turns ∷ [];
    }

-- The reply that stands ready is entered, or that there is no room.
pub data Enters (client : ℕ) (reply : Reply) (before after : Turns) : Type 0 where
  answered : after ≡ entered client reply before → Enters client reply before after
  is_full : (need rest empty : ℕ) → after ≡ entered client (Full need rest empty) before → Enters client reply before after

-- What a step of a client in this phase changes.
abbrev pub Steps : ℕ → Phase → Turns → Turns → Type 0
Steps client idle before after = after ≡ before
Steps client waiting before after =
    after ≡ in_phase client (running 0 (length before.history)) before
Steps client (running done began) before after =
    Executes client done began before after ⊎ IsSentBack client began before after
Steps client (ready began reply) before after =
    Enters client reply before after ⊎ IsSentBack client began before after

-- ---- all events

-- A client takes a step, or fails at one; all is acknowledged; the house does something; a client
-- asks for one thing more.
pub data Event : Type 0 where
  step : (client : ℕ) → Event
  failure : (client : ℕ) → Event
  sync : Event
  house : Event
  push : (client : ℕ) (request : List Op) → Event

-- the phase of a client that asks for one thing more
abbrev pub woken : Phase → Phase
woken idle = waiting
woken waiting = waiting
woken (running done began) = running done began
woken (ready began reply) = ready began reply

abbrev pub pushed : ℕ → List Op → Turns → Turns
pushed client request turns =
    record (in_phase client (woken (phase_of client turns)) turns) {
      plan = set turns.plan (client - 1) (requests_of client turns.plan ++ request ∷ []);
    }

-- What an event changes.
abbrev pub Turn : Event → Turns → Turns → Type 0
Turn (step client) before after = Steps client (phase_of client before) before after
Turn (failure client) before after =
    (phase_of client before ≢ idle) × (after ≡ in_phase client waiting before)
Turn sync before after = after ≡ record before { acknowledged = length before.history }
Turn house before after = after ≡ before
Turn (push client request) before after =
    IsClientOf client before.plan × (after ≡ pushed client request before)

-- Events one after the other.
pub data Run : List Event → Turns → Turns → Type 0 where
  none : (turns : Turns) → Run [] turns turns
  more : (event : Event) (events : List Event) (before between after : Turns) → Turn event before between → Run events between after → Run (event ∷ events) before after
