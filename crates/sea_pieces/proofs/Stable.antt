-- Transactions that stay stable as another client's goes on.
use Rattle.std.proofs.Common.{◌≡◌, ◌≢◌, ℕ, List, [], length, Option, Some, None, Result, Ok, Err, refl, ap, subst, ◌∙◌}
use Rattle.std.specs.Prelude.{OnOk, IfNone, IfSome, MatchOption}
use Rattle.std.specs.Option.{ForSome}
use Rattle.std.specs.FinMap.{get}
use Rattle.sea_object.specs.declared.op.Op.{Op}
use Rattle.sea_object.specs.Objects.{ObjectMap}
use Rattle.sea_sets.specs.Board.{HasNoConflict, IsConflict, OthersStay, noted, noted_in, place_of}
use Rattle.sea_sets.specs.declared.board.Board.{Board}
use Rattle.sea_sets.specs.declared.board.Conflict.{Conflict}
use Rattle.sea_sets.specs.Versions.{Stands}
use Rattle.sea_pieces.specs.declared.store.PieceStore.{PieceStore}
use Rattle.sea_pieces.specs.declared.piece.Piece.{Piece}
use Rattle.sea_pieces.specs.Committed.{objects_in, version_of, with_pieces}
use Rattle.sea_pieces.specs.Laying.{SharesRead, read_name}
use Rattle.sea_pieces.specs.Store.{Continues, Grows, IsStable, KeepsAll, KeepsOthers, NotesName, SharesReads, objects_of_store, versions_of}
use Rattle.sea_pieces.specs.Transaction.{Did, Done}

module _ (client : ℕ) (old : PieceStore) (board : Board) (others : OthersStay client old.board board) where
  same_notes : (c : ℕ) → c ≢ client → (at : ℕ) → noted board c at ≡ noted old.board c at
  same_notes c other at = ap (λ p. noted_in p at) (others.places c other)

  -- as the board's other notes stay
  pub board_kept : (c : ℕ) → c ≢ client → (ops : List Op) (done : Done) → IsStable old c ops done → HasNoConflict board c → (objects : ObjectMap) →
      ((name : List ℕ) (at : ℕ) → get old.addresses name ≡ Some at → ForSome (noted board c at) (λ _. get objects name ≡ get (objects_of_store old) name)) → Did ops done objects
  board_kept c other ops done stable quiet objects shares =
      stable (λ at. subst (λ n. Stands n) (same_notes c other at) (quiet at)) objects (λ name at is note found.
      shares name at is note (same_notes c other at ∙ found))

-- and other names get addresses
pub others_kept : (client : ℕ) (old new : PieceStore) → Continues client old new → KeepsOthers client old new
others_kept client old new goes c other ops done stable quiet objects shares =
    board_kept client old new.board goes.others c other ops done stable quiet objects (λ name at is note found.
    shares name at (goes.addresses name at is) note found ∙ ap (λ m. get (objects_in m) name) goes.versions)

-- a client's transaction is stable once its calls went well
pub stable_on : {T E : Type 0} (r : Result T E) (store : PieceStore) (client : ℕ) (ops : List Op) (done : Done) → (HasNoConflict store.board client → (objects : ObjectMap) → SharesReads store client objects → OnOk r (Did ops done objects)) → OnOk r (IsStable store client ops done)
stable_on (Ok x) store client ops done did = did
stable_on (Err e) store client ops done did = tt

-- What the reads of an operation leave: all reads before it, and its own.
pub record HasRead (client : ℕ) (op : Op) (old new : PieceStore) : Type 0 where
  pub quiet : HasNoConflict new.board client → HasNoConflict old.board client
  pub kept : (objects : ObjectMap) → SharesReads new client objects → SharesReads old client objects
  pub shared : (objects : ObjectMap) → SharesReads new client objects → SharesRead (read_name op) objects (objects_of_store new)

pub has_read : (client : ℕ) (op : Op) (name : List ℕ) (old new : PieceStore) → NotesName client name old new → Some name ≡ read_name op → HasRead client op old new
has_read client op name old new notes is = record {
  quiet = notes.quiet;
  kept = notes.kept;
  shared = λ objects shares. subst (λ n. SharesRead n objects (objects_of_store new)) is (notes.shared objects shares);
}

pub reads_nothing : (client : ℕ) (op : Op) (store : PieceStore) → None ≡ read_name op → HasRead client op store store
reads_nothing client op store is = record {
  quiet = λ quiet. quiet;
  kept = λ objects shares. shares;
  shared = λ objects shares. subst (λ n. SharesRead n objects (objects_of_store store)) is tt;
}

module _ (store : PieceStore) (client : ℕ) where
  pub none_did : (r : Option Conflict) → MatchOption r (HasNoConflict store.board client) (IsConflict store.board client) → IfNone r ((ops : List Op) (done : Done) → IsStable store client ops done → Did ops done (objects_of_store store))
  none_did None quiet = λ ops done stable. stable quiet (objects_of_store store) (λ name at is note found. refl)
  none_did (Some x) conflict = tt

  pub some_current : (r : Option Conflict) → MatchOption r (HasNoConflict store.board client) (IsConflict store.board client) → IfSome r (λ conflict. (name : List ℕ) → get store.addresses name ≡ Some conflict.at.0 → conflict.current ≡ version_of (versions_of store) name)
  some_current None quiet = tt
  some_current (Some x) conflict = λ name is. store.notes.current client x.at.0 name is _ conflict.found

module _ (old new : PieceStore) (grows : Grows old new) where
  pub grown_shares : (client : ℕ) (objects : ObjectMap) → SharesReads new client objects → SharesReads old client objects
  grown_shares client objects shares name at is note found =
      shares name at (grows.addresses name at is) note (ap (λ b. noted b client at) grows.board ∙ found) ∙ ap (λ m. get (objects_in m) name) grows.versions

  -- as names get addresses and late pieces are laid
  pub grown_kept : KeepsAll old new
  grown_kept client ops done stable quiet objects shares =
      stable (subst (λ b. HasNoConflict b client) grows.board quiet) objects (grown_shares client objects shares)

  pub grown_continues : (client : ℕ) → Continues client old new
  grown_continues client = record {
    versions = grows.versions;
    last = grows.last;
    addresses = grows.addresses;
    others = record {
      places = λ c other. ap (λ b. place_of b c) grows.board;
      clients = ap (λ (b : Board). length b.transactions.items) grows.board;
    };
  }

pub grows_then : (a b c : PieceStore) → Grows a b → Grows b c → Grows a c
grows_then a b c f g = record {
  versions = g.versions ∙ f.versions;
  last = g.last ∙ f.last;
  addresses = λ name at is. g.addresses name at (f.addresses name at is);
  board = g.board ∙ f.board;
}

pub grows_none : (a : PieceStore) → Grows a a
grows_none a = record { versions = refl; last = refl; addresses = λ name at is. is; board = refl }

pub continues_then : (client : ℕ) (a b c : PieceStore) → Continues client a b → Continues client b c → Continues client a c
continues_then client a b c f g = record {
  versions = g.versions ∙ f.versions;
  last = g.last ∙ f.last;
  addresses = λ name at is. g.addresses name at (f.addresses name at is);
  others = record {
    places = λ q other. g.others.places q other ∙ f.others.places q other;
    clients = g.others.clients ∙ f.others.clients;
  };
}

-- a store without late pieces has its versions
pub settled_versions : (store : PieceStore) → store.late ≡ [] → versions_of store ≡ store.committed
settled_versions store none = ap (λ (ps : List Piece). with_pieces store.last ps store.committed) none
