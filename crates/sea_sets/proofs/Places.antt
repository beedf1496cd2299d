-- The places of a board, as they are marked one after the other.
use Rattle.std.proofs.Common.{arith, zero, suc, ◌≡◌, ◌≢◌, ◌⊎◌, inl, inr, ℕ, ◌+◌, ◌<◌, ◌≤◌, List, ◌∷◌, length, Option, None, false, replicate, refl, sym, subst, ◌∙◌}
use Rattle.std.specs.Prelude.{slice_get}
use Rattle.std.proofs.lemmas.Option.{slice_get_past}
use Rattle.sea_base.specs.declared.place.Commit.{Commit}
use Rattle.sea_sets.specs.Board.{Marks, MovesOn, OthersStay, is_open_in, place_of}
use Rattle.sea_sets.specs.declared.board.Board.{Board}
use Rattle.sea_sets.specs.declared.notes.Change.{Change}
use Rattle.sea_sets.specs.declared.notes.Notes.{Notes}

-- nobody's transaction is open
pub none_open : (count c : ℕ) → is_open_in (slice_get (None ∷ replicate {A = Option Notes} count None) c) ≡ false
none_open count zero = refl
none_open zero (suc c) = refl
none_open (suc count) (suc zero) = refl
none_open (suc count) (suc (suc c)) = none_open count (suc c)

-- The clients up to this one have moved on, but for the committer, and the others stay.
pub record IsMarkedBelow (done committer : ℕ) (commit : Commit) (changed : List Change) (old new : Board) : Type 0 where
  pub own : place_of new committer ≡ place_of old committer
  pub moved : (c : ℕ) → c ≤ done → c ≢ committer → MovesOn commit changed (place_of old c) (place_of new c)
  pub rest : (c : ℕ) → done < c → place_of new c ≡ place_of old c
  pub count : length new.transactions.items ≡ length old.transactions.items

up_to : (c done : ℕ) → (c ≤ done) ⊎ (done < c)
up_to zero done = inl (omega arith)
up_to (suc c) zero = inr (omega arith)
up_to (suc c) (suc done) = elim (up_to c done) [ inl le ↦ inl (omega (arith, le)) | inr gt ↦ inr (omega (arith, gt)) ]

next_or : (c done : ℕ) → c ≤ done + 1 → (c ≤ done) ⊎ (c ≡ done + 1)
next_or c done le = elim (up_to c done) [ inl small ↦ inl small | inr large ↦ inr (omega (arith, le, large)) ]

module _ {committer : ℕ} {commit : Commit} {changed : List Change} {old : Board} where
  -- one client more
  pub marked_more : (done : ℕ) (mid new : Board) → done + 1 ≢ committer → IsMarkedBelow done committer commit changed old mid →
      MovesOn commit changed (place_of mid (done + 1)) (place_of new (done + 1)) → OthersStay (done + 1) mid new →
      IsMarkedBelow (done + 1) committer commit changed old new
  marked_more done mid new other was moves others = record {
    own = others.places committer (λ same. other (sym same)) ∙ was.own;
    moved = λ c le apart. elim (next_or c done le) [
      | inl small ↦ subst (λ p. MovesOn commit changed (place_of old c) p) (sym (others.places c (λ same. absurd (omega (arith, small, same))))) (was.moved c small apart)
      | inr same ↦ subst (λ d. MovesOn commit changed (place_of old d) (place_of new d)) (sym same)
          (subst (λ p. MovesOn commit changed p (place_of new (done + 1))) (was.rest (done + 1) (omega arith)) moves)
    ];
    rest = λ c above. others.places c (λ same. absurd (omega (arith, above, same))) ∙ was.rest c (omega (arith, above));
    count = others.clients ∙ was.count;
  }

  -- the committer's is left out
  pub marked_past : (done : ℕ) (new : Board) → done + 1 ≡ committer → IsMarkedBelow done committer commit changed old new →
      IsMarkedBelow (done + 1) committer commit changed old new
  marked_past done new own was = record {
    own = was.own;
    moved = λ c le apart. elim (next_or c done le) [
      | inl small ↦ was.moved c small apart
      | inr same ↦ absurd (apart (same ∙ own))
    ];
    rest = λ c above. was.rest c (omega (arith, above));
    count = was.count;
  }

  -- all are marked
  pub marked_all : (done : ℕ) (new : Board) → length old.transactions.items ≤ done → IsMarkedBelow done committer commit changed old new →
      Marks committer commit changed old new
  marked_all done new all was = record {
    own = was.own;
    others = λ c apart. elim (up_to c done) [
      | inl small ↦ was.moved c small apart
      | inr large ↦
          let none = slice_get_past (None ∷ old.transactions.items) c (omega (arith, all, large)) in
          subst (λ p. MovesOn commit changed (place_of old c) p) (sym (was.rest c large))
          (subst (λ p. MovesOn commit changed p p) (sym none) (record { is_open = refl; noted = λ at. refl }))
    ];
    clients = was.count;
  }
