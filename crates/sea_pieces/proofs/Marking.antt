-- Notes and transactions as a piece of a commit is laid and all notes move on.
use Rattle.std.proofs.Common.{◌≡◌, ℕ, zero, suc, ◌≤◌, Bool, true, false, cond, nat_eq, List, [], ◌∷◌, Some, None, refl, sym, ap, ◌∙◌, arith}
use Rattle.std.specs.Ordering.{nat_cmp, eq_by_cmp}
use Rattle.std.specs.Cmp.{eq_by_cmp_equiv}
use Rattle.std.specs.Cmp.Lexicographic.{slice_cmp, nat_list_cmp_total}
use Rattle.std.specs.FinMap.{get}
use Rattle.std.proofs.lemmas.Map.Lookups.{exact_bytes}
use Rattle.std.proofs.lemmas.Map.Views.{tells_apart}
use Rattle.std.proofs.lemmas.Bool.{eq-eqb, eqb-true}
use Rattle.std.proofs.lemmas.Option.{none-some, same_Some}
use Rattle.sea_base.specs.declared.place.Commit.{Commit}
use Rattle.sea_sets.specs.declared.board.Board.{Board}
use Rattle.sea_sets.specs.declared.notes.Change.{Change}
use Rattle.sea_sets.specs.declared.notes.Note.{Note}
use Rattle.sea_sets.specs.Board.{Marks, noted}
use Rattle.sea_pieces.specs.declared.piece.Piece.{Piece}
use Rattle.sea_pieces.specs.Addresses.{AddressMap, AreApart}
use Rattle.sea_pieces.specs.Committed.{VersionMap, version_of, with_piece}
use Rattle.sea_pieces.specs.Noted.{AreBefore, AreNoted, AreUpTo}
use Rattle.sea_pieces.proofs.Moving.{Moved, moved, version_laid}

module _ (commit : Commit) (change : Change) (stays : change.gone ≡ false) (old new : Board) (marks : Marks 0 commit (change ∷ []) old new) where
  -- a note of now is one of before that was moved on
  pub marked : (client at : ℕ) (note : Note) → noted new client at ≡ Some note → Moved commit change.at.0 at (noted old client at) note
  marked zero at note found = absurd (none-some note (sym (nobody new) ∙ found))
    where
      nobody : (b : Board) → noted b zero at ≡ None
      nobody b = refl
  marked (suc c) at note found = moved commit change at (noted old (suc c) at) note stays (sym ((marks.others (suc c) (λ e. absurd (omega (arith, e)))).noted at) ∙ found)

  pub marked_before : AreBefore commit old → AreBefore commit new
  marked_before before client at note found seen is =
      let m = marked client at note found in
      before client at m.was m.found seen (sym m.seen ∙ is)

-- no object has a version past the commit
pub laid_up_to : (commit : Commit) (piece : Piece) (m : VersionMap) → AreUpTo commit m → AreUpTo commit (with_piece commit piece m)
laid_up_to commit piece m up_to name version is = go (eq_by_cmp (slice_cmp nat_cmp) name piece.name) (sym (version_laid commit piece m name) ∙ is)
  where
    go : (b : Bool) → cond b (Some commit) (version_of m name) ≡ Some version → version.0 ≤ commit.0
    go true e = omega (arith, ap (λ (c : Commit). c.0) (same_Some commit version e))
    go false e = up_to name version e

module _ (commit : Commit) (piece : Piece) (m : VersionMap) (addresses : AddressMap) (apart : AreApart addresses) (here : ℕ) (is_here : get addresses piece.name ≡ Some here) where
  -- whether an address is the piece's is whether the name is
  same_test : (name : List ℕ) (at : ℕ) → get addresses name ≡ Some at → nat_eq here at ≡ eq_by_cmp (slice_cmp nat_cmp) name piece.name
  same_test name at is = go (nat_eq here at) refl (eq_by_cmp (slice_cmp nat_cmp) name piece.name) refl
    where
      go : (a : Bool) → nat_eq here at ≡ a → (b : Bool) → eq_by_cmp (slice_cmp nat_cmp) name piece.name ≡ b → a ≡ b
      go true e true f = refl
      go false e false f = refl
      go true e false f = (sym (ap (λ n. eq_by_cmp (slice_cmp nat_cmp) n piece.name) (apart.apart name piece.name at is (is_here ∙ ap (λ (n : ℕ). Some n) (eqb-true here at e))) ∙ (eq_by_cmp_equiv nat_list_cmp_total).refl piece.name) ∙ f)
      go false e true f = sym e ∙ ap (nat_eq here) (sym (same_Some here at (sym is_here ∙ ap (get addresses) (sym (tells_apart exact_bytes name piece.name f)) ∙ is))) ∙ eq-eqb here here refl

  module _ (change : Change) (stays : change.gone ≡ false) (at_here : change.at.0 ≡ here) (old new : Board) (marks : Marks 0 commit (change ∷ []) old new) where
    pub marked_noted : AreNoted m addresses commit old → AreNoted (with_piece commit piece m) addresses commit new
    marked_noted notes = record {
      given = λ client at note found. notes.given client at _ (marked commit change stays old new marks client at note found).found;
      current = λ client at name is note found.
          let k = marked commit change stays old new marks client at note found in
          k.current ∙ ap (λ b. cond b (Some commit) k.was.current) (ap (λ n. nat_eq n at) at_here ∙ same_test name at is)
          ∙ ap (cond (eq_by_cmp (slice_cmp nat_cmp) name piece.name) (Some commit)) (notes.current client at name is k.was k.found)
          ∙ sym (version_laid commit piece m name);
      seen = λ client at note found seen is.
          let k = marked commit change stays old new marks client at note found in
          notes.seen client at k.was k.found seen (sym k.seen ∙ is);
    }
