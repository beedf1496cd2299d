-- The committed objects, and the open transactions of clients.
use Rattle.std.specs.Prelude.{◌≡◌, ◌⊎◌, ℕ, ◌≤◌, List, [], Bool, true, false, Option, Some, None}
use Rattle.std.specs.FinMap as map
use Rattle.sea_base.specs.declared.place.Commit.{Commit}
use Rattle.sea_object.specs.declared.reply.Reply.{Reply}
use Rattle.sea_object.specs.declared.reply.Reply.TheVariants.{Done, Refused}
use Rattle.sea_object.specs.Objects.{ObjectMap}
use Rattle.sea_sets.specs.declared.notes.Note.{Note}
use Rattle.sea_sets.specs.Versions.{AllStand, IsFirstConflict}
use Rattle.sea_transactions.specs.declared.transactions.ExecFault.{ExecFault}
use Rattle.sea_transactions.specs.declared.transactions.ExecFault.TheVariants.{SentBack, NoMemory}
use Rattle.sea_transactions.specs.declared.transactions.Executed.{Executed}
use Rattle.sea_transactions.specs.declared.transactions.Executed.TheVariants as executed

-- A client's transaction.
pub record Transaction : Type 0 where
  pub is_open : Bool
  -- at each address that it read, the version that it found and the one there now
  pub noted : ℕ → Option Note
  -- the items of the operations that it did, or the one that was refused
  pub reply : Reply
  -- the bytes of what its commit changes, none where that is nothing
  pub change : List ℕ

-- The committed objects, the number of the last commit, how many clients there are, and the
-- transaction of each.
pub record State : Type 0 where
  pub objects : ObjectMap
  pub last : Commit
  pub clients : ℕ
  pub transaction : ℕ → Transaction

-- clients count from 1
abbrev pub HasClient : State → ℕ → Type 0
HasClient state client = (1 ≤ client) × (client ≤ state.clients)

abbrev pub IsOpen : State → ℕ → Type 0
IsOpen state client = (state.transaction client).is_open ≡ true

abbrev pub IsClosed : State → ℕ → Type 0
IsClosed state client = (state.transaction client).is_open ≡ false

-- no object, before any commit, and no open transaction of so many clients
pub record IsNew (count : ℕ) (state : State) : Type 0 where
  pub objects : state.objects ≡ map.empty
  pub last : state.last ≡ record { 0 = 0 }
  pub clients : state.clients ≡ count
  pub closed : (client : ℕ) → IsClosed state client

-- a transaction that has done nothing
pub record IsBlank (transaction : Transaction) : Type 0 where
  pub is_open : transaction.is_open ≡ true
  pub noted : (at : ℕ) → transaction.noted at ≡ None
  pub reply : transaction.reply ≡ Done []
  pub change : transaction.change ≡ []

-- the reply of operations that were all done
abbrev pub IsDone : Reply → Type 0
IsDone (Done items) = Unit {0}
IsDone _ = ⊥

abbrev pub IsRefused : Reply → Type 0
IsRefused (Refused op why) = Unit {0}
IsRefused _ = ⊥

-- a transaction of which no operation was refused
abbrev pub IsRunning : Transaction → Type 0
IsRunning transaction = (transaction.is_open ≡ true) × IsDone transaction.reply

-- what a transaction is after an operation: where that was refused, it changes nothing
abbrev pub IsAfter : Executed → Transaction → Type 0
IsAfter executed.Done transaction = IsDone transaction.reply
IsAfter executed.Refused transaction =
    IsRefused transaction.reply × (transaction.change ≡ [])

-- a note that was there, or one of a first read, which finds what is there now
abbrev pub IsNotedMore : Option Note → Option Note → Type 0
IsNotedMore old None = old ≡ None
IsNotedMore old (Some note) = (old ≡ Some note) ⊎ ((old ≡ None) × (note.seen ≡ note.current))

-- An operation was done or refused, of a transaction that was not to be sent back.
pub record Runs (end : Executed) (old new : Transaction) : Type 0 where
  pub stood : AllStand old.noted
  pub is_open : new.is_open ≡ true
  pub noted : (at : ℕ) → IsNotedMore (old.noted at) (new.noted at)
  pub after : IsAfter end new

-- it is sent back exactly where a version has moved that it found
abbrev pub IsCause : ExecFault → (ℕ → Option Note) → Type 0
IsCause (SentBack conflict) noted = IsFirstConflict noted conflict
IsCause NoMemory noted = AllStand noted

-- A fault ended a transaction.
pub record Fails (fault : ExecFault) (old new : Transaction) : Type 0 where
  pub cause : IsCause fault old.noted
  pub closed : new.is_open ≡ false
