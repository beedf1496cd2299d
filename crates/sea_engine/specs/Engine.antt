-- An engine: the turns of its clients, and the facts that each of its calls keeps.
use Rattle.std.specs.Prelude.{◌≡◌, ◌⊎◌, ℕ, ◌+◌, ◌<◌, ◌≤◌, List, [], ◌∷◌, ◌++◌, Some, length, take, drop, slice_index_or}
use Rattle.std.specs.List.{All}
use Rattle.std.specs.FinMap as map
use Rattle.sea_device.specs.declared.device.Device.{Ghosts as Devices}
use Rattle.sea_history.specs.History.{Legal}
use Rattle.sea_history.specs.Plan.{Requests}
use Rattle.sea_history.specs.Record.{count_of}
use Rattle.sea_history.specs.declared.history.Entry.{Entry}
use Rattle.sea_journal.specs.Journal.{HasLog}
use Rattle.sea_journal.specs.Log.{Log}
use Rattle.sea_object.specs.Objects.{ObjectMap}
use Rattle.sea_object.specs.declared.op.Op.{Op}
use Rattle.sea_object.specs.declared.reply.Reply.{Reply}
use Rattle.sea_record.specs.declared.record.Record.{Record}
use Rattle.sea_sets.specs.Versions.{AllStand}
use Rattle.sea_transactions.specs.State.{Transaction, IsDone, IsOpen, IsRefused, IsRunning}
use Rattle.sea_transactions.specs.declared.transactions.Transactions.{Ghosts}
use Rattle.sea_engine.specs.Opens.{Change, Makes, Opens}
use Rattle.sea_engine.specs.Turns.{Phase, idle, waiting, running, ready, Turns, done_by_others, request_after}
use Rattle.sea_engine.specs.TurnLaws.{IsReached}
use Rattle.sea_engine.specs.declared.engine.Engine.{Engine}
use Rattle.sea_engine.specs.declared.state.ClientState.{ClientState}
use Rattle.sea_engine.specs.declared.state.ClientState.TheVariants.{Idle, Waiting, Running, Ready}

-- ---- turns

-- a client's phase, by its state and the reply of its transaction
abbrev pub phase_at : ClientState → Reply → Phase
phase_at Idle reply = idle
phase_at Waiting reply = waiting
phase_at (Running done began) reply = running done began
phase_at (Ready began) reply = ready began reply

-- the phases of clients, counted on from one of them
abbrev pub phases_from : ℕ → List ClientState → (ℕ → Transaction) → List Phase
phases_from client [] transaction = []
phases_from client (s ∷ ss) transaction =
    phase_at s (transaction client).reply ∷ phases_from (client + 1) ss transaction

-- the state of a client
abbrev pub state_at : List ClientState → ℕ → ClientState
state_at states client = slice_index_or (Idle ∷ states) client Idle

-- the turns that an engine's clients have come to
abbrev pub turns_of : {D T : Type 0} {d : Devices D} → Ghosts T → Engine D T d → Turns
turns_of t engine = record {
  plan = engine.plan;
  phases = phases_from 1 engine.states.items (t.state engine.transactions).transaction;
  history = engine.history.entries;
  acknowledged = engine.history.acknowledged;
  sent_back = engine.history.sent_back;
}

-- ---- open transactions

-- No version that a client's transaction found has moved, unless a request of another client was
-- done since it began.
abbrev pub IsFresh : ℕ → ℕ → List Entry → Transaction → Type 0
IsFresh client began history transaction =
    done_by_others client (drop began history) ≡ 0 → AllStand transaction.noted

-- A client's transaction did so many operations of its next request, and none of them was refused.
pub record IsUnderWay {T : Type 0} (t : Ghosts T) (transactions : T) (plan : Requests)
    (history : List Entry) (client done began : ℕ) : Type 0 where
  pub request : List Op
  pub next : request_after client (count_of client history) plan ≡ Some request
  pub left : done < length request
  pub running : IsRunning ((t.state transactions).transaction client)
  pub did : t.did transactions client (take done request)
  pub fresh : IsFresh client began history ((t.state transactions).transaction client)

-- It did all of its next request, or was refused at the last operation that it did.
pub record IsAtItsEnd {T : Type 0} (t : Ghosts T) (transactions : T) (plan : Requests)
    (history : List Entry) (client began : ℕ) : Type 0 where
  pub request : List Op
  pub next : request_after client (count_of client history) plan ≡ Some request
  pub ops : List Op
  pub behind : List Op
  pub cut : request ≡ ops ++ behind
  pub is_open : IsOpen (t.state transactions) client
  pub ends : (IsDone ((t.state transactions).transaction client).reply × (behind ≡ []))
      ⊎ (IsRefused ((t.state transactions).transaction client).reply
      × (((t.state transactions).transaction client).change ≡ []))
  pub did : t.did transactions client ops
  pub fresh : IsFresh client began history ((t.state transactions).transaction client)

-- what the state of a client says of its transaction
abbrev pub Suits : {T : Type 0} → Ghosts T → T → Requests → List Entry → ℕ → ClientState → Type 0
Suits t transactions plan history client Idle = Unit {0}
Suits t transactions plan history client Waiting = Unit {0}
Suits t transactions plan history client (Running done began) =
    IsUnderWay t transactions plan history client done began
Suits t transactions plan history client (Ready began) =
    IsAtItsEnd t transactions plan history client began

-- transactions do all operations of a plan
abbrev pub AllServed : (Op → Type 0) → Requests → Type 0
AllServed serves plan = (client number : ℕ) (request : List Op)
    → request_after client number plan ≡ Some request → All serves request

-- What holds of an engine, whatever its device tells: its clients came to its turns, and each open
-- transaction is stable.
pub record IsSound {D T : Type 0} {d : Devices D} (t : Ghosts T) (engine : Engine D T d)
    : Type 0 where
  pub reached : IsReached (turns_of t engine)
  pub clients : (t.state engine.transactions).clients ≡ length engine.plan
  pub states : length engine.states.items ≡ length engine.plan
  pub counted : engine.history.clients ≡ length engine.plan
  pub stable : (client : ℕ) → Suits t engine.transactions engine.plan engine.history.entries client
      (state_at engine.states.items client)
  pub served : AllServed t.serves engine.plan
  pub last : (t.state engine.transactions).last.0 ≤ engine.last.0

-- ---- what a device holds

-- These records make the objects after a prefix of the history, from those that were found, with
-- all that is acknowledged.
pub record MakesPrefix (lays : Change) (turns : Turns) (found : ObjectMap) (records : List Record)
    : Type 0 where
  pub count : ℕ
  pub acknowledged : turns.acknowledged ≤ count
  pub within : count ≤ length turns.history
  pub objects : ObjectMap
  pub made : Makes lays records map.empty objects
  pub legal : Legal turns.plan found (take count turns.history) objects

-- The past of an engine that found these objects. All records make the objects after the history,
-- and with any number of the queued ones a prefix of it.
pub record HasPast {D T : Type 0} {d : Devices D} (t : Ghosts T) (found : ObjectMap) (log : Log)
    (engine : Engine D T d) : Type 0 where
  pub has_log : HasLog d log engine.journal
  pub opened : Opens t.lays log.opened found
  pub legal : Legal engine.plan found engine.history.entries
      (t.state engine.transactions).objects
  pub made : Makes t.lays (log.trail.records ++ log.queued) map.empty
      (t.state engine.transactions).objects
  pub prefixes : (k : ℕ) → k ≤ length log.queued
      → MakesPrefix t.lays (turns_of t engine) found (log.trail.records ++ take k log.queued)
  pub tails : All (λ r. r.tail ≡ log.trail.tail) log.queued

-- it has a past that begins with this image
pub record HasPastFrom {D T : Type 0} {d : Devices D} (t : Ghosts T) (image : List ℕ)
    (engine : Engine D T d) : Type 0 where
  pub found : ObjectMap
  pub log : Log
  pub from : log.opened ≡ image
  pub past : HasPast t found log engine

-- an image opens to the objects after a prefix of the history, with all that is acknowledged
pub record OpensToPrefix (lays : Change) (turns : Turns) (found : ObjectMap) (image : List ℕ)
    : Type 0 where
  pub count : ℕ
  pub acknowledged : turns.acknowledged ≤ count
  pub within : count ≤ length turns.history
  pub objects : ObjectMap
  pub opens : Opens lays image objects
  pub legal : Legal turns.plan found (take count turns.history) objects
