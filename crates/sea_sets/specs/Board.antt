-- The open transactions of clients, and which of them is overtaken.
use Rattle.std.specs.Prelude.{◌≡◌, ◌≢◌, ℕ, ◌<◌, List, ◌∷◌, Bool, false, true, Option, Some, None, is_some, length, slice_get, ◌≤◌}
use Rattle.sea_base.specs.declared.place.Commit.{Commit}
use Rattle.sea_sets.specs.Notes.{note_at}
use Rattle.sea_sets.specs.Versions.{AllStand, IsFirstConflict, first_note, moved_on}
use Rattle.sea_sets.specs.declared.board.Board.{Board}
use Rattle.sea_sets.specs.declared.board.Conflict.{Conflict}
use Rattle.sea_sets.specs.declared.notes.Change.{Change}
use Rattle.sea_sets.specs.declared.notes.Note.{Note}
use Rattle.sea_sets.specs.declared.notes.Notes.{Notes}

-- A client's place on a board: the notes of its open transaction, or that none is open. A client
-- that the board doesn't have has no place.
abbrev pub Place : Type 0
Place = Option (Option Notes)

-- clients count from 1
abbrev pub place_of : Board → ℕ → Place
place_of board client = slice_get (None ∷ board.transactions.items) client

abbrev pub is_open_in : Place → Bool
is_open_in None = false
is_open_in (Some transaction) = is_some transaction

abbrev pub noted_in : Place → ℕ → Option Note
noted_in None at = None
noted_in (Some None) at = None
noted_in (Some (Some notes)) at = note_at notes at

abbrev pub HasClient : Board → ℕ → Type 0
HasClient board client = (1 ≤ client) × (client ≤ length board.transactions.items)

-- a transaction of the client is open
abbrev pub IsOpen : Board → ℕ → Type 0
IsOpen board client = is_open_in (place_of board client) ≡ true

-- what the client's open transaction noted of an address
abbrev pub noted : Board → ℕ → ℕ → Option Note
noted board client at = noted_in (place_of board client) at

-- All but this client's transactions stay.
pub record OthersStay (client : ℕ) (old new : Board) : Type 0 where
  pub places : (c : ℕ) → c ≢ client → place_of new c ≡ place_of old c
  pub clients : length new.transactions.items ≡ length old.transactions.items

-- a board of so many clients, of which none has an open transaction
pub record IsEmpty (clients : ℕ) (board : Board) : Type 0 where
  pub count : length board.transactions.items ≡ clients
  pub closed : (client : ℕ) → is_open_in (place_of board client) ≡ false

-- The client's transaction is open, and noted nothing yet.
pub record Begins (client : ℕ) (old new : Board) : Type 0 where
  pub is_open : IsOpen new client
  pub blank : (at : ℕ) → noted new client at ≡ None
  pub others : OthersStay client old new

-- No transaction of the client is open any more.
pub record Ends (client : ℕ) (old new : Board) : Type 0 where
  pub closed : is_open_in (place_of new client) ≡ false
  pub others : OthersStay client old new

-- An address that the client's transaction reads has its first note.
pub record NotesRead (client at : ℕ) (seen : Option Commit) (old new : Board) : Type 0 where
  pub is_open : IsOpen new client
  pub here : noted new client at ≡ Some (first_note (noted old client at) seen)
  pub elsewhere : (q : ℕ) → q ≢ at → noted new client q ≡ noted old client q
  pub others : OthersStay client old new

-- nothing is noted
pub record NotesNothing (client : ℕ) (old new : Board) : Type 0 where
  pub is_open : IsOpen new client
  pub same : (at : ℕ) → noted new client at ≡ noted old client at
  pub others : OthersStay client old new

-- what the transaction in a place noted moves on with a commit
pub record MovesOn (commit : Commit) (changed : List Change) (old new : Place) : Type 0 where
  pub is_open : is_open_in new ≡ is_open_in old
  pub noted : (at : ℕ) → noted_in new at ≡ moved_on commit changed at (noted_in old at)

-- All but the committer's transactions move on with a commit.
pub record Marks (committer : ℕ) (commit : Commit) (changed : List Change) (old new : Board) : Type 0 where
  pub own : place_of new committer ≡ place_of old committer
  pub others : (c : ℕ) → c ≢ committer → MovesOn commit changed (place_of old c) (place_of new c)
  pub clients : length new.transactions.items ≡ length old.transactions.items

-- no version that the client's transaction found has moved
abbrev pub HasNoConflict : Board → ℕ → Type 0
HasNoConflict board client = AllStand (noted board client)

-- this is the least address whose version has moved, with the version found and the one there now
abbrev pub IsConflict : Board → ℕ → Conflict → Type 0
IsConflict board client conflict = IsFirstConflict (noted board client) conflict
