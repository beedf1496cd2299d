-- The reads of an operation, after late pieces were laid.
use Rattle.std.proofs.Common.{◌≡◌, ℕ, List, [], Option, Some, None, inl, inr, sym, ap, subst, ◌∙◌}
use Rattle.sea_object.specs.declared.op.Op.{Op}
use Rattle.sea_object.specs.Objects.{ObjectMap}
use Rattle.sea_sets.specs.Board.{HasNoConflict, IsOpen, is_open_in, noted, place_of}
use Rattle.sea_pieces.specs.declared.store.PieceStore.{PieceStore}
use Rattle.sea_pieces.specs.Committed.{objects_in}
use Rattle.sea_pieces.specs.Laying.{SharesRead, read_name}
use Rattle.sea_pieces.specs.Store.{Continues, Grows, NotesAtMost, NotesName, SharesReads, versions_of}
use Rattle.sea_pieces.proofs.Stable.{HasRead, continues_then, grown_continues, grown_shares, has_read, reads_nothing, settled_versions}

-- What a store is once an operation's reads are noted.
pub record Reads (client : ℕ) (op : Op) (old new : PieceStore) : Type 0 where
  pub has : HasRead client op old new
  pub continues : Continues client old new
  pub settled : new.late ≡ []
  pub notes : NotesAtMost (read_name op) client old new

module _ (client : ℕ) (op : Op) (old mid new : PieceStore) (grows : Grows old mid) where
  read_since : HasRead client op mid new → HasRead client op old new
  read_since read = record {
    quiet = λ quiet. subst (λ b. HasNoConflict b client) grows.board (read.quiet quiet);
    kept = λ objects shares. grown_shares old mid grows client objects (read.kept objects shares);
    shared = read.shared;
  }

  pub notes_since : NotesAtMost (read_name op) client mid new → NotesAtMost (read_name op) client old new
  notes_since most = record {
    is_open = most.is_open;
    notes = λ at. elim (most.notes at) [
      | inl same ↦ inl (same ∙ ap (λ b. noted b client at) grows.board)
      | inr first ↦ inr (
        first.0,
        first.1,
        record {
          fresh = sym (ap (λ b. noted b client at) grows.board) ∙ first.2.fresh;
          address = first.2.address;
          found = first.2.found;
        },
      )
    ];
  }

  pub reads_name : (name : List ℕ) → NotesName client name mid new → NotesAtMost (Some name) client mid new → new.late ≡ [] → Some name ≡ read_name op → Reads client op old new
  reads_name name noted notes settled is = record {
    has = read_since (has_read client op name mid new noted is);
    continues = continues_then client old mid new (grown_continues old mid grows client) noted.continues;
    settled = settled;
    notes = notes_since (subst (λ n. NotesAtMost n client mid new) is notes);
  }

pub grown_notes : (client : ℕ) (read : Option (List ℕ)) (old new : PieceStore) → Grows old new → IsOpen old.board client → NotesAtMost read client old new
grown_notes client read old new grows is_open = record {
  is_open = ap (λ b. is_open_in (place_of b client)) grows.board ∙ is_open;
  notes = λ at. inl (ap (λ b. noted b client at) grows.board);
}

pub reads_none : (client : ℕ) (op : Op) (old new : PieceStore) → Grows old new → IsOpen old.board client → new.late ≡ [] → None ≡ read_name op → Reads client op old new
reads_none client op old new grows is_open settled is = record {
  has = read_since client op old new new grows (reads_nothing client op new is);
  continues = grown_continues old new grows client;
  settled = settled;
  notes = grown_notes client (read_name op) old new grows is_open;
}

-- the committed objects then are what they were
pub read_versions : (client : ℕ) (op : Op) (old new : PieceStore) → Reads client op old new → new.committed ≡ versions_of old
read_versions client op old new reads = sym (settled_versions new reads.settled) ∙ reads.continues.versions

pub shared_now : (client : ℕ) (op : Op) (old new : PieceStore) → Reads client op old new → (objects : ObjectMap) → SharesReads new client objects → SharesRead (read_name op) objects (objects_in new.committed)
shared_now client op old new reads objects shares =
    subst (λ m. SharesRead (read_name op) objects (objects_in m)) (settled_versions new reads.settled) (reads.has.shared objects shares)
