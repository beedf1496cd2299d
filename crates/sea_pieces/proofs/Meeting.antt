-- Names of pieces that have addresses.
use Rattle.std.proofs.Common.{◌≡◌, ℕ, zero, suc, ◌+◌, ◌<◌, arith, List, [], ◌∷◌, ◌++◌, length, take, get_or, Option, Some, None, refl, sym, ap, subst, ◌∙◌}
use Rattle.std.specs.Prelude.{IsSome}
use Rattle.std.specs.FinMap.{get}
use Rattle.std.proofs.lemmas.List.{take_more}
use Rattle.sea_pieces.specs.declared.piece.Piece.{Piece}
use Rattle.sea_pieces.specs.Addresses.{AddressMap}
use Rattle.sea_pieces.specs.Met.{AreMet}

pub some_is : {A : Type 0} (o : Option A) (x : A) → o ≡ Some x → IsSome o
some_is None x is = cc
some_is (Some y) x is = refl

module _ (old new : AddressMap) (keeps : (name : List ℕ) (at : ℕ) → get old name ≡ Some at → get new name ≡ Some at) where
  kept_some : (name : List ℕ) (o : Option ℕ) → get old name ≡ o → IsSome o → IsSome (get new name)
  kept_some name None is some = absurd cc
  kept_some name (Some at) is some = some_is (get new name) at (keeps name at is)

  pub met_kept : (pieces : List Piece) → AreMet pieces old → AreMet pieces new
  met_kept [] met = tt
  met_kept (p ∷ pieces) met = (kept_some p.name (get old p.name) refl met.0, met_kept pieces met.1)

met_push : (addresses : AddressMap) (pieces : List Piece) (p : Piece) → AreMet pieces addresses → IsSome (get addresses p.name) → AreMet (pieces ++ p ∷ []) addresses
met_push addresses [] p met some = (some, tt)
met_push addresses (q ∷ pieces) p met some = (met.0, met_push addresses pieces p met.1 some)

-- one name more
pub met_more : (addresses : AddressMap) (pieces : List Piece) (i : ℕ) (p : Piece) (at : ℕ) → i < length pieces → p ≡ get_or pieces i p → AreMet (take i pieces) addresses → get addresses p.name ≡ Some at → AreMet (take (i + 1) pieces) addresses
met_more addresses pieces i p at below is met here =
    subst (λ ps. AreMet ps addresses) (sym (take_more pieces i p below ∙ ap (λ (q : Piece). take i pieces ++ q ∷ []) (sym is))) (met_push addresses (take i pieces) p met (some_is (get addresses p.name) at here))

-- a name among them has one
pub met_at : (addresses : AddressMap) (pieces : List Piece) (i : ℕ) (p : Piece) → i < length pieces → p ≡ get_or pieces i p → AreMet pieces addresses → get addresses p.name ≡ None → ⊥
met_at addresses [] i p below is met none = omega (arith, below)
met_at addresses (q ∷ pieces) zero p below is met none =
    let some : IsSome {T = ℕ} None = subst IsSome (ap (λ (x : Piece). get addresses x.name) (sym is) ∙ none) met.0 in cc
met_at addresses (q ∷ pieces) (suc i) p below is met none =
    met_at addresses pieces i p (omega (arith, below)) is met.1 none
