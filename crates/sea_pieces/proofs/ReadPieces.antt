-- Pieces read one behind the other.
use Rattle.std.proofs.Common.{◌≡◌, ℕ, zero, suc, ◌<◌, ◌≤◌, true, false, refl, ◌==◌, List, [], ◌∷◌, ◌++◌, length, sym, ap, subst, ◌∙◌, arith, append_assoc, length-append}
use Rattle.std.specs.List.{AllByRecursion}
use Rattle.std.proofs.lemmas.Bool.{eqb-true}
use Rattle.std.proofs.lemmas.List.{append-nil}
use Rattle.sea_pieces.specs.declared.piece.Piece.{Piece}
use Rattle.sea_pieces.specs.Spelling.{IsPiece, piece_bytes, spelling}
use Rattle.sea_pieces.specs.Spelling.{BeginsWithPiece, BeginsWithNoPiece, ArePieces}
use Rattle.sea_pieces.specs.SpellingLaws.{length-piece_bytes, spelling-cons, spelling-nil, spelling-append}
use Rattle.sea_pieces.specs.SpellingLaws.{same_front}

pub none_read : (bytes : List ℕ) (pieces : List Piece) → pieces ≡ [] → AllByRecursion IsPiece pieces × (bytes ≡ spelling pieces ++ bytes)
none_read bytes pieces e =
    subst (λ (ps : List Piece). AllByRecursion IsPiece ps × (bytes ≡ spelling ps ++ bytes)) (sym e) (tt, ap (λ (b : List ℕ). b ++ bytes) (sym spelling-nil))

-- one more
pub more_read : (bytes rest behind : List ℕ) (pieces later : List Piece) (p : Piece) → later ≡ pieces ++ p ∷ [] → AllByRecursion IsPiece pieces → bytes ≡ spelling pieces ++ rest → BeginsWithPiece rest p behind
    → AllByRecursion IsPiece later × (bytes ≡ spelling later ++ behind)
more_read bytes rest behind pieces later p e all read found =
    let one : spelling (p ∷ []) ≡ piece_bytes p = spelling-cons p [] ∙ ap (λ (b : List ℕ). piece_bytes p ++ b) spelling-nil ∙ append-nil (piece_bytes p) in
    let is : bytes ≡ spelling (pieces ++ p ∷ []) ++ behind =
    read ∙ ap (λ (r : List ℕ). spelling pieces ++ r) found.1 ∙ sym (append_assoc (spelling pieces) (piece_bytes p) behind) ∙ ap (λ (b : List ℕ). spelling pieces ++ b ++ behind) (sym one) ∙ ap (λ (b : List ℕ). b ++ behind) (sym (spelling-append pieces (p ∷ []))) in
    subst (λ (ps : List Piece). AllByRecursion IsPiece ps × (bytes ≡ spelling ps ++ behind)) (sym e) (all_more pieces all, is)
  where
    all_more : (ps : List Piece) → AllByRecursion IsPiece ps → AllByRecursion IsPiece (ps ++ p ∷ [])
    all_more [] all = (found.0, tt)
    all_more (q ∷ ps) all = (all.0, all_more ps all.1)

pub nearer : (rest behind : List ℕ) (p : Piece) → BeginsWithPiece rest p behind → length behind < length rest
nearer rest behind p found = omega (arith, ap length found.1, length-append (piece_bytes p) behind, length-piece_bytes p)

-- bytes are left, and no piece stands there: then the whole is no pieces
pub stops : (bytes rest : List ℕ) (read : List Piece) → AllByRecursion IsPiece read → bytes ≡ spelling read ++ rest → false ≡ (length rest == 0) → BeginsWithNoPiece rest → (pieces : List Piece) → ArePieces bytes pieces → ⊥
stops bytes rest read all is left none pieces found =
    let others = same_front read pieces rest all found.0 (sym is ∙ found.1) in
    next others.0 others.1 others.3
  where
    some : (n : ℕ) → false ≡ (n == 0) → 1 ≤ n
    some zero e = absurd cc
    some (suc n) e = omega arith

    next : (more : List Piece) → AllByRecursion IsPiece more → rest ≡ spelling more → ⊥
    next [] all e = omega (arith, some (length rest) left, ap length e, ap length spelling-nil)
    next (p ∷ more) all e = none p (spelling more) (all.0, e ∙ spelling-cons p more)

no_rest : (rest : List ℕ) → length rest ≡ 0 → rest ≡ []
no_rest [] e = refl
no_rest (b ∷ rest) e = absurd (omega arith)

-- no bytes are left: then these pieces are those of the whole
pub ends : (bytes rest : List ℕ) (read : List Piece) → AllByRecursion IsPiece read → bytes ≡ spelling read ++ rest → true ≡ (length rest == 0) → ArePieces bytes read
ends bytes rest read all is left =
    (all, is ∙ ap (λ (r : List ℕ). spelling read ++ r) (no_rest rest (eqb-true (length rest) 0 (sym left))) ∙ append-nil (spelling read))
