-- A commit that lays its pieces in order.
use Rattle.std.proofs.Common.{◌≡◌, ℕ, zero, suc, ◌+◌, ◌<◌, ◌≤◌, inl, inr, false, List, [], ◌∷◌, ◌++◌, length, take, get_or, Some, None, refl, sym, ap, ◌∙◌, arith}
use Rattle.std.proofs.lemmas.List.{take_more}
use Rattle.std.proofs.lemmas.Option.{none-some}
use Rattle.sea_base.specs.declared.place.Commit.{Commit}
use Rattle.sea_sets.specs.Board.{Ends, Place, is_open_in, noted, noted_in, place_of}
use Rattle.sea_sets.specs.declared.board.Board.{Board}
use Rattle.sea_sets.specs.declared.notes.Note.{Note}
use Rattle.sea_pieces.specs.Addresses.{AddressMap}
use Rattle.sea_pieces.specs.Committed.{VersionMap, objects_in, with_piece, with_pieces}
use Rattle.sea_pieces.specs.Laying.{after_pieces}
use Rattle.sea_pieces.specs.Noted.{AreBefore, AreNoted, AreUpTo}
use Rattle.sea_pieces.specs.declared.piece.Piece.{Piece}
use Rattle.sea_pieces.proofs.Noting.{same_or}
use Rattle.sea_pieces.proofs.Versions.{objects_with_piece}

with_pieces-append : (commit : Commit) (front back : List Piece) (m : VersionMap) → with_pieces commit (front ++ back) m ≡ with_pieces commit back (with_pieces commit front m)
with_pieces-append commit [] back m = refl
with_pieces-append commit (piece ∷ front) back m = with_pieces-append commit front back (with_piece commit piece m)

-- one piece more
pub with_more : (commit : Commit) (pieces : List Piece) (i : ℕ) (p : Piece) (m : VersionMap) → i < length pieces → with_piece commit (get_or pieces i p) (with_pieces commit (take i pieces) m) ≡ with_pieces commit (take (i + 1) pieces) m
with_more commit pieces i p m below = sym (ap (λ (ps : List Piece). with_pieces commit ps m) (take_more pieces i p below) ∙ with_pieces-append commit (take i pieces) (get_or pieces i p ∷ []) m)

pub objects_with_pieces : (commit : Commit) (pieces : List Piece) (m : VersionMap) → objects_in (with_pieces commit pieces m) ≡ after_pieces pieces (objects_in m)
objects_with_pieces commit [] m = refl
objects_with_pieces commit (piece ∷ pieces) m = objects_with_pieces commit pieces (with_piece commit piece m) ∙ ap (after_pieces pieces) (objects_with_piece commit piece m)

closed_notes : (p : Place) (at : ℕ) (note : Note) → is_open_in p ≡ false → noted_in p at ≡ Some note → ⊥
closed_notes None at note closed found = none-some note found
closed_notes (Some None) at note closed found = none-some note found
closed_notes (Some (Some notes)) at note closed found = absurd cc

-- where no transaction is open nothing is noted
pub none_noted : (m : VersionMap) (addresses : AddressMap) (last : Commit) (board : Board) → ((client : ℕ) → is_open_in (place_of board client) ≡ false) → AreNoted m addresses last board
none_noted m addresses last board closed = record {
  given = λ client at note found. absurd (closed_notes (place_of board client) at note (closed client) found);
  current = λ client at name is note found. absurd (closed_notes (place_of board client) at note (closed client) found);
  seen = λ client at note found. absurd (closed_notes (place_of board client) at note (closed client) found);
}

module _ (client : ℕ) (old new : Board) (ends : Ends client old new) where
  pub was_noted : (c at : ℕ) (note : Note) → noted new c at ≡ Some note → noted old c at ≡ Some note
  was_noted c at note found = elim (same_or c client) [
    | inl own ↦ absurd (closed_notes (place_of new client) at note ends.closed (ap (λ n. noted new n at) (sym own) ∙ found))
    | inr other ↦ ap (λ p. noted_in p at) (sym (ends.others.places c other)) ∙ found
  ]

  pub ended_before : (m : VersionMap) (addresses : AddressMap) (last commit : Commit) → last.0 < commit.0 → AreNoted m addresses last old → AreBefore commit new
  ended_before m addresses last commit later notes c at note found seen is = omega (arith, later, notes.seen c at note (was_noted c at note found) seen is)

  pub ended_noted : (m : VersionMap) (addresses : AddressMap) (last commit : Commit) → last.0 < commit.0 → AreNoted m addresses last old → AreNoted m addresses commit new
  ended_noted m addresses last commit later notes = record {
    given = λ c at note found. notes.given c at note (was_noted c at note found);
    current = λ c at name is note found. notes.current c at name is note (was_noted c at note found);
    seen = λ c at note found seen is. omega (arith, later, notes.seen c at note (was_noted c at note found) seen is);
  }

pub later_up_to : (m : VersionMap) (last commit : Commit) → last.0 < commit.0 → AreUpTo last m → AreUpTo commit m
later_up_to m last commit later up_to name version is = omega (arith, later, up_to name version is)

-- all of them
pub take_whole : (i : ℕ) (pieces : List Piece) → length pieces ≤ i → take i pieces ≡ pieces
take_whole zero [] few = refl
take_whole zero (p ∷ pieces) few = absurd (omega (arith, few))
take_whole (suc i) [] few = refl
take_whole (suc i) (p ∷ pieces) few = ap (λ (rest : List Piece). p ∷ rest) (take_whole i pieces (omega (arith, few)))
