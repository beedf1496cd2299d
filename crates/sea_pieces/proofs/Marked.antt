-- What a commit leaves of notes, and of the transactions of others.
use Rattle.std.proofs.Common.{◌≡◌, ◌≢◌, ◌⊎◌, inl, inr, ℕ, zero, suc, ◌<◌, Bool, true, false, cond, nat_eq, List, [], ◌∷◌, Option, Some, None, refl, sym, ap, subst, ◌∙◌, arith}
use Rattle.std.specs.Prelude.{option_map, unwrap_or}
use Rattle.std.specs.Ordering.{nat_cmp, eq_by_cmp}
use Rattle.std.specs.Cmp.Lexicographic.{slice_cmp, nat_list_cmp_total}
use Rattle.std.specs.FinMap.{get, get-insert}
use Rattle.std.proofs.lemmas.Option.{none-some}
use Rattle.sea_base.specs.declared.place.Commit.{Commit}
use Rattle.sea_sets.specs.declared.board.Board.{Board}
use Rattle.sea_sets.specs.declared.notes.Change.{Change}
use Rattle.sea_sets.specs.declared.notes.Note.{Note}
use Rattle.sea_sets.specs.Versions.{moved_on, version_after}
use Rattle.sea_sets.specs.Board.{Ends, Marks, is_open_in, noted, noted_in, place_of}
use Rattle.sea_pieces.specs.declared.piece.Piece.{Piece}
use Rattle.sea_pieces.specs.declared.committed.Version.{Version}
use Rattle.sea_pieces.specs.declared.store.PieceStore.{PieceStore}
use Rattle.sea_pieces.specs.Committed.{VersionMap, content_of, objects_in, plain_object, version_of, with_piece, with_pieces}
use Rattle.sea_pieces.specs.Laying.{laid}
use Rattle.sea_pieces.specs.Noted.{AreMarked, AreNoted, AreUpTo, IsMarked}
use Rattle.sea_pieces.specs.Store.{KeepsOthers, objects_of_store, versions_of}
use Rattle.sea_pieces.proofs.Committing.{ended_noted, later_up_to}
use Rattle.sea_pieces.proofs.Marking.{laid_up_to}
use Rattle.sea_pieces.proofs.Moving.{version_laid}
use Rattle.sea_pieces.proofs.Stable.{settled_versions}
use Rattle.sea_pieces.proofs.Versions.{get-objects_in}

-- one change of a commit
module _ (commit : Commit) (change : Change) (stays : change.gone ≡ false) (old new : Board) (marks : Marks 0 commit (change ∷ []) old new) where
  moved_version : (at : ℕ) (note : Note) → (version_after commit (change ∷ []) at note.current ≡ note.current) ⊎ (version_after commit (change ∷ []) at note.current ≡ Some commit)
  moved_version at note = go (nat_eq change.at.0 at)
    where
      go : (b : Bool) → (cond b (cond change.gone None (Some commit)) note.current ≡ note.current) ⊎ (cond b (cond change.gone None (Some commit)) note.current ≡ Some commit)
      go true = inr (ap (λ (g : Bool). cond g None (Some commit)) stays)
      go false = inl refl

  pub marked_once : AreMarked 0 commit old new
  marked_once = record {
    is_open = λ c other. (marks.others c other).is_open;
    left = λ c at note other found. (
      record note { current = version_after commit (change ∷ []) at note.current },
      (marks.others c other).noted at ∙ ap (moved_on commit (change ∷ []) at) found,
      record { seen = refl; current = moved_version at note },
    );
    none = λ c at other found. (marks.others c other).noted at ∙ ap (moved_on commit (change ∷ []) at) found;
    clients = marks.clients;
  }

pub marked_none : (client : ℕ) (commit : Commit) (board : Board) → AreMarked client commit board board
marked_none client commit board = record {
  is_open = λ c other. refl;
  left = λ c at note other found. (note, found, record { seen = refl; current = inl refl });
  none = λ c at other found. found;
  clients = refl;
}

mark_then : (commit : Commit) (a b c : Note) → IsMarked commit a b → IsMarked commit b c → IsMarked commit a c
mark_then commit a b c f g = record {
  seen = g.seen ∙ f.seen;
  current = elim g.current [
    | inr is ↦ inr is
    | inl same ↦ elim f.current [ inl before ↦ inl (same ∙ before) | inr is ↦ inr (same ∙ is) ]
  ];
}

pub marked_then : (client : ℕ) (commit : Commit) (a b c : Board) → AreMarked client commit a b → AreMarked client commit b c → AreMarked client commit a c
marked_then client commit a b c f g = record {
  is_open = λ q other. g.is_open q other ∙ f.is_open q other;
  left = λ q at note other found.
      let first = f.left q at note other found in
      let second = g.left q at first.0 other first.1 in
      (second.0, second.1, mark_then commit note first.0 second.0 first.2 second.2);
  none = λ q at other found. g.none q at other (f.none q at other found);
  clients = g.clients ∙ f.clients;
}

-- a client's transaction is closed, and then all notes are marked
pub ended_marked : (client : ℕ) (commit : Commit) (old ended new : Board) → Ends client old ended → AreMarked 0 commit ended new → AreMarked client commit old new
ended_marked client commit old ended new ends marked = record { is_open = opened; left = left; none = none; clients = marked.clients ∙ ends.others.clients }
  where
    opened : (c : ℕ) → c ≢ client → is_open_in (place_of new c) ≡ is_open_in (place_of old c)
    opened zero other = refl
    opened (suc c) other = marked.is_open (suc c) (λ e. absurd (omega (arith, e))) ∙ ap is_open_in (ends.others.places (suc c) other)

    left : (c at : ℕ) (note : Note) → c ≢ client → noted old c at ≡ Some note → (now : Note) × (noted new c at ≡ Some now) × IsMarked commit note now
    left zero at note other found = absurd (none-some note found)
    left (suc c) at note other found = marked.left (suc c) at note (λ e. absurd (omega (arith, e))) (ap (λ p. noted_in p at) (ends.others.places (suc c) other) ∙ found)

    none : (c at : ℕ) → c ≢ client → noted old c at ≡ None → noted new c at ≡ None
    none zero at other found = refl
    none (suc c) at other found = marked.none (suc c) at (λ e. absurd (omega (arith, e))) (ap (λ p. noted_in p at) (ends.others.places (suc c) other) ∙ found)

-- a piece of a commit changes no object but its own, which has the commit's version
untouched_once : (commit : Commit) (piece : Piece) (m : VersionMap) (name : List ℕ) (b : Bool) → eq_by_cmp (slice_cmp nat_cmp) name piece.name ≡ b → (version_of (with_piece commit piece m) name ≡ Some commit → ⊥) → get (with_piece commit piece m) name ≡ get m name
untouched_once commit piece m name true is other = absurd (other (version_laid commit piece m name ∙ ap (λ b. cond b (Some commit) (version_of m name)) is))
untouched_once commit piece m name false is other =
    let v : Version = record { commit = commit; content = laid piece.offset piece.bytes (unwrap_or (content_of m piece.name) []) } in
    get-insert nat_list_cmp_total m piece.name v name ∙ ap (λ b. cond b (Some v) (get m name)) is

-- an object without the version of a commit is none of the commit's
pub untouched : (commit : Commit) (pieces : List Piece) (m : VersionMap) (name : List ℕ) → (version_of (with_pieces commit pieces m) name ≡ Some commit → ⊥) → get (with_pieces commit pieces m) name ≡ get m name
untouched commit [] m name other = refl
untouched commit (piece ∷ pieces) m name other =
    let rest = untouched commit pieces (with_piece commit piece m) name other in
    rest ∙ untouched_once commit piece m name (eq_by_cmp (slice_cmp nat_cmp) name piece.name) refl (λ e. other (ap (option_map (λ (v : Version). v.commit)) rest ∙ e))

pub pieces_up_to : (commit : Commit) (pieces : List Piece) (m : VersionMap) → AreUpTo commit m → AreUpTo commit (with_pieces commit pieces m)
pieces_up_to commit [] m up_to = up_to
pieces_up_to commit (piece ∷ pieces) m up_to = pieces_up_to commit pieces (with_piece commit piece m) (laid_up_to commit piece m up_to)

-- transactions of others stay stable over a commit
module _ (client : ℕ) (old new : PieceStore) (commit : Commit) (pieces : List Piece) (later : old.last.0 < commit.0) (versions : versions_of new ≡ with_pieces commit pieces (versions_of old))
    (keeps : (name : List ℕ) (at : ℕ) → get old.addresses name ≡ Some at → get new.addresses name ≡ Some at) (marked : AreMarked client commit old.board new.board) where
  -- a version that was found and still stands is none of the commit's
  unmoved : (c at : ℕ) (note now : Note) → noted old.board c at ≡ Some note → IsMarked commit note now → now.current ≡ now.seen → now.current ≡ Some commit → ⊥
  unmoved c at note now found mark stands is = omega (arith, later, old.notes.seen c at note found commit (sym mark.seen ∙ sym stands ∙ is))

  was : (c at : ℕ) (note now : Note) → noted old.board c at ≡ Some note → IsMarked commit note now → now.current ≡ now.seen → note.current ≡ note.seen
  was c at note now found mark stands = elim mark.current [
    | inl same ↦ sym same ∙ stands ∙ mark.seen
    | inr is ↦ absurd (unmoved c at note now found mark stands is)
  ]

  same_object : (name : List ℕ) → (version_of (versions_of new) name ≡ Some commit → ⊥) → get (objects_of_store new) name ≡ get (objects_of_store old) name
  same_object name other =
      ap (λ m. get (objects_in m) name) versions
      ∙ get-objects_in (with_pieces commit pieces (versions_of old)) name
      ∙ ap (λ (v : Option Version). option_map plain_object (option_map (λ (v : Version). v.content) v)) (untouched commit pieces (versions_of old) name (λ e. other (ap (λ m. version_of m name) versions ∙ e)))
      ∙ sym (get-objects_in (versions_of old) name)

  pub commit_keeps : KeepsOthers client old new
  commit_keeps c other ops done stable quiet objects shares =
      stable (λ at note found.
      let m = marked.left c at note other found in
      was c at note m.0 found m.2 (quiet at m.0 m.1)) objects (λ name at is note found.
      let m = marked.left c at note other found in
      shares name at (keeps name at is) m.0 m.1
      ∙ same_object name (λ e. unmoved c at note m.0 found m.2 (quiet at m.0 m.1) (new.notes.current c at name (keeps name at is) m.0 m.1 ∙ e)))

-- what a commit's closing and marking leaves is right for the versions with its pieces
pub committed_noted : (client : ℕ) (old : PieceStore) (commit : Commit) (pieces : List Piece) (ended new : Board) → old.late ≡ [] → old.last.0 < commit.0 → Ends client old.board ended →
    ((m : VersionMap) → AreNoted m old.addresses commit ended → AreNoted (with_pieces commit pieces m) old.addresses commit new) → AreNoted (with_pieces commit pieces old.committed) old.addresses commit new
committed_noted client old commit pieces ended new settled later ends marks =
    marks old.committed (ended_noted client old.board ended ends old.committed old.addresses old.last commit later
    (subst (λ m. AreNoted m old.addresses old.last old.board) (settled_versions old settled) old.notes))

pub committed_up_to : (old : PieceStore) (commit : Commit) (pieces : List Piece) → old.late ≡ [] → old.last.0 < commit.0 → AreUpTo commit (with_pieces commit pieces old.committed)
committed_up_to old commit pieces settled later =
    pieces_up_to commit pieces old.committed (later_up_to old.committed old.last commit later (subst (AreUpTo old.last) (settled_versions old settled) old.versions))
