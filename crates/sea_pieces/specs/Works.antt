-- Transactions of clients on the objects that pieces make.
use Rattle.std.specs.Prelude.{◌≡◌, ℕ, List, [], ◌∷◌, length, slice_get, unwrap_or}
use Rattle.sea_object.specs.declared.op.Op.{Op}
use Rattle.sea_object.specs.declared.reply.Reply.TheVariants as reply
use Rattle.sea_object.specs.Objects.{ObjectMap}
use Rattle.sea_sets.specs.Board.{is_open_in, noted, place_of}
use Rattle.sea_transactions.specs.State.{State, Transaction}
use Rattle.sea_pieces.specs.declared.piece.Piece.{Piece}
use Rattle.sea_pieces.specs.declared.workspace.Workspace.{Workspace}
use Rattle.sea_pieces.specs.Laying.{after_pieces}
use Rattle.sea_pieces.specs.Spelling.{ArePieces, spelling}
use Rattle.sea_pieces.specs.Store.{IsPrepared, IsStable, objects_of_store}
use Rattle.sea_pieces.specs.Transaction.{Done}

abbrev pub nothing_done : Done
nothing_done = record { items = []; pieces = [] }

-- what a client's transaction has done, of those of clients from 1 on
abbrev pub done_by : List Done → ℕ → Done
done_by transactions client =
    unwrap_or (slice_get (nothing_done ∷ transactions) client) nothing_done

abbrev pub work_of : Workspace → ℕ → Done
work_of space client = done_by space.transactions.items client

-- No operation is refused. The change is spelled as its pieces.
abbrev pub transaction_of : Workspace → ℕ → Transaction
transaction_of space client = record {
  is_open = is_open_in (place_of space.store.board client);
  noted = noted space.store.board client;
  reply = reply.Done (work_of space client).items;
  change = spelling (work_of space client).pieces;
}

abbrev pub state_of : Workspace → State
state_of space = record {
  objects = objects_of_store space.store;
  last = space.store.last;
  clients = length space.store.board.transactions.items;
  transaction = transaction_of space;
}

abbrev pub HasDone : Workspace → ℕ → List Op → Type 0
HasDone space client ops = IsStable space.store client ops (work_of space client)

abbrev pub IsReady : Workspace → ℕ → Type 0
IsReady space client = IsPrepared (work_of space client).pieces space.store

-- these bytes spell pieces that make the second map of objects of the first
abbrev pub Lays : List ℕ → ObjectMap → ObjectMap → Type 0
Lays bytes objects others =
    (pieces : List Piece) × ArePieces bytes pieces × (others ≡ after_pieces pieces objects)
