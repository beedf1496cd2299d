-- What calls leave of the committed objects, and of other clients' transactions.
use Rattle.std.specs.Prelude.{◌≡◌, ◌≢◌, ◌⊎◌, ℕ, List, Option, Some, None}
use Rattle.sea_base.specs.declared.place.Commit.{Commit}
use Rattle.sea_object.specs.declared.op.Op.{Op}
use Rattle.sea_object.specs.Objects.{ObjectMap}
use Rattle.sea_sets.specs.declared.notes.Note.{Note}
use Rattle.sea_transactions.specs.State.{State, IsClosed}

-- A client's transaction stays as it is.
pub record Stays {S : Type 0} (state : S → State) (did : S → ℕ → List Op → Type 0) (client : ℕ)
    (old new : S) : Type 0 where
  pub transaction : (state new).transaction client ≡ (state old).transaction client
  pub done : (ops : List Op) → did old client ops → did new client ops

-- A client's call leaves the committed objects, and the transactions of all others.
pub record Keeps {S : Type 0} (state : S → State) (did : S → ℕ → List Op → Type 0) (client : ℕ)
    (old new : S) : Type 0 where
  pub objects : (state new).objects ≡ (state old).objects
  pub last : (state new).last ≡ (state old).last
  pub clients : (state new).clients ≡ (state old).clients
  pub others : (c : ℕ) → c ≢ client → Stays state did c old new

-- what was found stays; what is there now is the same, or what this commit left there
abbrev pub HasMoved : Commit → Option Note → Option Note → Type 0
HasMoved commit None new = new ≡ None
HasMoved commit (Some note) new =
    (new ≡ Some note) ⊎ (new ≡ Some (record note { current = Some commit }))

-- Versions that a transaction found may have moved, and nothing else of it has.
pub record MovesOn {S : Type 0} (state : S → State) (did : S → ℕ → List Op → Type 0)
    (commit : Commit) (client : ℕ) (old new : S) : Type 0 where
  pub is_open : ((state new).transaction client).is_open ≡ ((state old).transaction client).is_open
  pub noted : (at : ℕ) → HasMoved commit (((state old).transaction client).noted at)
      (((state new).transaction client).noted at)
  pub reply : ((state new).transaction client).reply ≡ ((state old).transaction client).reply
  pub change : ((state new).transaction client).change ≡ ((state old).transaction client).change
  pub done : (ops : List Op) → did old client ops → did new client ops

-- A client's transaction was committed under this number, and is over.
pub record Commits {S : Type 0} (state : S → State) (did : S → ℕ → List Op → Type 0) (client : ℕ)
    (commit : Commit) (old new : S) : Type 0 where
  pub last : (state new).last ≡ commit
  pub clients : (state new).clients ≡ (state old).clients
  pub closed : IsClosed (state new) client
  pub others : (c : ℕ) → c ≢ client → MovesOn state did commit c old new

-- these bytes spell no change
abbrev pub SpellsNothing : (List ℕ → ObjectMap → ObjectMap → Type 0) → List ℕ → Type 0
SpellsNothing lays change = (objects others : ObjectMap) → lays change objects others → ⊥

-- The change of an earlier commit was laid over the objects, while no transaction was open.
pub record Replays (lays : List ℕ → ObjectMap → ObjectMap → Type 0) (commit : Commit)
    (change : List ℕ) (old new : State) : Type 0 where
  pub laid : lays change old.objects new.objects
  pub last : new.last ≡ commit
  pub clients : new.clients ≡ old.clients
  pub closed : (client : ℕ) → IsClosed new client
