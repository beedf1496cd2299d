-- Records that are laid over objects, and why they made none.
use Rattle.std.specs.Prelude.{◌≡◌, ℕ, ◌≤◌, List, [], ◌∷◌}
use Rattle.sea_record.specs.declared.record.Record.{Record}
use Rattle.sea_engine.specs.Opens.{Change, IsStrange, Lays}
use Rattle.sea_transactions.specs.State.{State, IsClosed}
use Rattle.sea_engine.specs.declared.replay.ReplayFault.{ReplayFault}
use Rattle.sea_engine.specs.declared.replay.ReplayFault.TheVariants.{NoMemory, Strange}

-- the number of the last record, or this one where there is none
abbrev pub last_number : ℕ → List Record → ℕ
last_number number [] = number
last_number number (r ∷ rs) = last_number r.commit.0 rs

abbrev pub IsCause : Change → List Record → ReplayFault → Type 0
IsCause lays records NoMemory = Unit {0}
IsCause lays records (Strange block) = IsStrange lays records block.0

-- What the record changes is laid over the objects, and no transaction is open.
pub record IsReplayed (lays : Change) (r : Record) (old new : State) : Type 0 where
  pub laid : Lays lays r.body.kind r.body.plain old.objects new.objects
  pub last : new.last.0 ≤ r.commit.0
  pub clients : new.clients ≡ old.clients
  pub closed : (client : ℕ) → IsClosed new client
