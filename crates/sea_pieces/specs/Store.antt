-- Open transactions on the committed objects.
use Rattle.std.specs.Prelude.{◌≡◌, ◌≢◌, ◌⊎◌, ℕ, List, [], Option, Some, None}
use Rattle.std.specs.Option.{ForSome}
use Rattle.std.specs.FinMap as map
use Rattle.sea_object.specs.declared.op.Op.{Op}
use Rattle.sea_object.specs.Objects.{ObjectMap}
use Rattle.sea_sets.specs.Board.{HasNoConflict, IsOpen, OthersStay, noted}
use Rattle.sea_sets.specs.declared.notes.Note.{Note}
use Rattle.sea_pieces.specs.declared.piece.Piece.{Piece}
use Rattle.sea_pieces.specs.declared.store.PieceStore.{PieceStore}
use Rattle.sea_pieces.specs.Met.{AreMet}
use Rattle.sea_pieces.specs.Committed.{VersionMap, objects_in, version_of, with_pieces}
use Rattle.sea_pieces.specs.Transaction.{Did, Done}

-- the committed versions, with the late pieces of the last commit laid over them
abbrev pub versions_of : PieceStore → VersionMap
versions_of store = with_pieces store.last store.late store.committed

-- the committed objects
abbrev pub objects_of_store : PieceStore → ObjectMap
objects_of_store store = objects_in (versions_of store)

-- the objects share with the committed ones each one that the client's transaction read
abbrev pub SharesReads : PieceStore → ℕ → ObjectMap → Type 0
SharesReads store client objects = (name : List ℕ) (at : ℕ) →
    map.get store.addresses name ≡ Some at →
    ForSome (noted store.board client at)
    (λ _. map.get objects name ≡ map.get (objects_of_store store) name)

-- Where no version has moved that the client's transaction found, it did its operations on all
-- objects that share what it read.
abbrev pub IsStable : PieceStore → ℕ → List Op → Done → Type 0
IsStable store client ops done = HasNoConflict store.board client →
    (objects : ObjectMap) → SharesReads store client objects → Did ops done objects

-- Calls of one client leave the committed objects, the other clients' notes, and its address to
-- each name that has one.
pub record Continues (client : ℕ) (old new : PieceStore) : Type 0 where
  pub versions : versions_of new ≡ versions_of old
  pub last : new.last ≡ old.last
  pub addresses : (name : List ℕ) (at : ℕ) → map.get old.addresses name ≡ Some at →
      map.get new.addresses name ≡ Some at
  pub others : OthersStay client old.board new.board

-- the other clients' transactions stay stable
abbrev pub KeepsOthers : ℕ → PieceStore → PieceStore → Type 0
KeepsOthers client old new = (c : ℕ) → c ≢ client → (ops : List Op) (done : Done) →
    IsStable old c ops done → IsStable new c ops done

-- The client's transaction noted the version of the object of this name, unless it did before.
pub record NotesName (client : ℕ) (name : List ℕ) (old new : PieceStore) : Type 0 where
  pub continues : Continues client old new
  pub quiet : HasNoConflict new.board client → HasNoConflict old.board client
  pub kept : (objects : ObjectMap) → SharesReads new client objects → SharesReads old client objects
  pub shared : (objects : ObjectMap) → SharesReads new client objects →
      map.get objects name ≡ map.get (objects_of_store new) name

-- all clients' transactions stay stable
abbrev pub KeepsAll : PieceStore → PieceStore → Type 0
KeepsAll old new = (client : ℕ) (ops : List Op) (done : Done) →
    IsStable old client ops done → IsStable new client ops done

-- Names got addresses, and late pieces were laid over the objects; what is committed and what is
-- noted stays.
pub record Grows (old new : PieceStore) : Type 0 where
  pub versions : versions_of new ≡ versions_of old
  pub last : new.last ≡ old.last
  pub addresses : (name : List ℕ) (at : ℕ) → map.get old.addresses name ≡ Some at →
      map.get new.addresses name ≡ Some at
  pub board : new.board ≡ old.board

-- No piece is late, and the names of those of a commit have addresses.
pub record IsPrepared (pieces : List Piece) (store : PieceStore) : Type 0 where
  pub settled : store.late ≡ []
  pub met : AreMet pieces store.addresses

-- the first note of the object of this name, which finds the version that it has
pub record IsFirstNote (name : List ℕ) (at : ℕ) (store : PieceStore) (old new : Option Note)
    : Type 0 where
  pub fresh : old ≡ None
  pub address : map.get store.addresses name ≡ Some at
  pub found : new ≡ Some (record {
    seen = version_of (versions_of store) name;
    current = version_of (versions_of store) name;
  })

-- A client's transaction is open, and what it noted of each address stays, but for one first note.
pub record NotesAtMost (read : Option (List ℕ)) (client : ℕ) (old new : PieceStore) : Type 0 where
  pub is_open : IsOpen new.board client
  pub notes : (at : ℕ) → (noted new.board client at ≡ noted old.board client at)
      ⊎ ((name : List ℕ) × (read ≡ Some name)
      × IsFirstNote name at new (noted old.board client at) (noted new.board client at))
