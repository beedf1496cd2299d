-- What holds of each run of turns.
use Rattle.std.specs.Prelude.{◌≡◌, ℕ, ◌+◌, ◌-◌, ◌*◌, ◌≤◌, ◌↔◌, List, [], ◌∷◌, ◌++◌, cond, nat_eq, length, drop}
use Rattle.sea_history.specs.Plan.{Requests, requests_of}
use Rattle.sea_history.specs.History.{Serves, numbers_of}
use Rattle.sea_history.specs.declared.history.Entry.{Entry}
use Rattle.sea_engine.specs.Turns.{Phase, idle, waiting, running, ready, Turns, opened, phase_of}
use Rattle.sea_engine.specs.Turns.{Event, step, failure, sync, house, push, Run, none, more}
use Rattle.sea_engine.specs.Turns.{done_by_others}

-- turns that some plan's clients may have come to
pub record IsReached (turns : Turns) : Type 0 where
  pub plan : Requests
  pub events : List Event
  pub run : Run events (opened plan) turns

-- The history serves the plan, and a client is idle where it serves all its requests.
pub record IsServing (turns : Turns) : Type 0 where
  pub serves : Serves turns.plan turns.history
  pub idle : (client : ℕ) → (phase_of client turns ≡ idle) ↔
      (length (numbers_of client turns.history) ≡ length (requests_of client turns.plan))

abbrev pub ServesPlan : Type 0
ServesPlan = (turns : Turns) → IsReached turns → IsServing turns

-- no more is acknowledged than is entered
abbrev pub Acknowledges : Type 0
Acknowledges = (turns : Turns) → IsReached turns → turns.acknowledged ≤ length turns.history

-- what is entered and acknowledged stays so
pub record GoesOn (before after : Turns) : Type 0 where
  pub entries : List Entry
  pub history : after.history ≡ before.history ++ entries
  pub acknowledged : before.acknowledged ≤ after.acknowledged

abbrev pub Appends : Type 0
Appends = (events : List Event) (before after : Turns) → IsReached before
    → Run events before after → GoesOn before after

-- ---- how often clients are sent back

-- how often a client was sent back by an event
abbrev pub backs_by : ℕ → Event → Turns → Turns → ℕ
backs_by client (step other) before after =
    cond (nat_eq client other) (after.sent_back - before.sent_back) 0
backs_by client (failure other) before after = 0
backs_by client sync before after = 0
backs_by client house before after = 0
backs_by client (push other request) before after = 0

-- how often in a run
abbrev pub backs_in : ℕ → (events : List Event) (before after : Turns) → Run events before after → ℕ
backs_in client [] before after (none turns) = 0
backs_in client (event ∷ events) before after (more e es b between a turn run) =
    backs_by client event before between + backs_in client events between after run

-- where the client began, if it is at work, or else where the history ends
abbrev pub start_of : Phase → List Entry → ℕ
start_of idle history = length history
start_of waiting history = length history
start_of (running done began) history = began
start_of (ready began reply) history = began

-- In a run a client is sent back no more often than requests of others are done, from where it began.
abbrev pub SendsOneBack : Type 0
SendsOneBack = (events : List Event) (before after : Turns) → IsReached before
    → (run : Run events before after) (client : ℕ)
    → backs_in client events before after run
    ≤ done_by_others client (drop (start_of (phase_of client before) before.history) after.history)

-- each entry sends all other clients back once at most
abbrev pub SendsAllBack : Type 0
SendsAllBack = (turns : Turns) → IsReached turns
    → turns.sent_back ≤ (length turns.plan - 1) * length turns.history
