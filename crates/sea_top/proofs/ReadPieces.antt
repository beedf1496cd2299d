-- Pieces read one behind the other.
use Rattle.std.proofs.Common.{◌≡◌, ℕ, zero, suc, ◌<◌, ◌≤◌, false, ◌==◌, List, [], ◌∷◌, ◌++◌, length, sym, ap, subst, ◌∙◌, arith, append_assoc, length-append}
use Rattle.std.specs.List.{AllByRecursion}
use Rattle.std.proofs.lemmas.List.{append-nil}
use Rattle.sea_top.specs.declared.record.Piece.{Piece}
use Rattle.sea_top.specs.Record.{IsPiece, piece_bytes, body_bytes}
use Rattle.sea_top.specs.RecordParts.{BeginsWithPiece, BeginsWithNoPiece, ArePieces}
use Rattle.sea_top.proofs.RecordLengths.{length-piece_bytes, body_bytes-cons, body_bytes-nil, body_bytes-append}
use Rattle.sea_top.proofs.SamePieces.{same_front}

pub none_read : (bytes : List ℕ) (pieces : List Piece) → pieces ≡ [] → AllByRecursion IsPiece pieces × (bytes ≡ body_bytes pieces ++ bytes)
none_read bytes pieces e =
    subst (λ (ps : List Piece). AllByRecursion IsPiece ps × (bytes ≡ body_bytes ps ++ bytes)) (sym e) (tt, ap (λ (b : List ℕ). b ++ bytes) (sym body_bytes-nil))

-- one more
pub more_read : (bytes rest behind : List ℕ) (pieces later : List Piece) (p : Piece) → later ≡ pieces ++ p ∷ [] → AllByRecursion IsPiece pieces → bytes ≡ body_bytes pieces ++ rest → BeginsWithPiece rest p behind
    → AllByRecursion IsPiece later × (bytes ≡ body_bytes later ++ behind)
more_read bytes rest behind pieces later p e all read found =
    let one : body_bytes (p ∷ []) ≡ piece_bytes p = body_bytes-cons p [] ∙ ap (λ (b : List ℕ). piece_bytes p ++ b) body_bytes-nil ∙ append-nil (piece_bytes p) in
    let is : bytes ≡ body_bytes (pieces ++ p ∷ []) ++ behind =
    read ∙ ap (λ (r : List ℕ). body_bytes pieces ++ r) found.1 ∙ sym (append_assoc (body_bytes pieces) (piece_bytes p) behind) ∙ ap (λ (b : List ℕ). body_bytes pieces ++ b ++ behind) (sym one) ∙ ap (λ (b : List ℕ). b ++ behind) (sym (body_bytes-append pieces (p ∷ []))) in
    subst (λ (ps : List Piece). AllByRecursion IsPiece ps × (bytes ≡ body_bytes ps ++ behind)) (sym e) (all_more pieces all, is)
  where
    all_more : (ps : List Piece) → AllByRecursion IsPiece ps → AllByRecursion IsPiece (ps ++ p ∷ [])
    all_more [] all = (found.0, tt)
    all_more (q ∷ ps) all = (all.0, all_more ps all.1)

pub nearer : (rest behind : List ℕ) (p : Piece) → BeginsWithPiece rest p behind → length behind < length rest
nearer rest behind p found = omega (arith, ap length found.1, length-append (piece_bytes p) behind, length-piece_bytes p)

-- bytes are left, and no piece stands there: then the whole is no pieces
pub stops : (bytes rest : List ℕ) (read : List Piece) → AllByRecursion IsPiece read → bytes ≡ body_bytes read ++ rest → false ≡ (length rest == 0) → BeginsWithNoPiece rest → (pieces : List Piece) → ArePieces bytes pieces → ⊥
stops bytes rest read all is left none pieces found =
    let others = same_front read pieces rest all found.0 (sym is ∙ found.1) in
    next others.0 others.1 others.3
  where
    some : (n : ℕ) → false ≡ (n == 0) → 1 ≤ n
    some zero e = absurd cc
    some (suc n) e = omega arith

    next : (more : List Piece) → AllByRecursion IsPiece more → rest ≡ body_bytes more → ⊥
    next [] all e = omega (arith, some (length rest) left, ap length e, ap length body_bytes-nil)
    next (p ∷ more) all e = none p (body_bytes more) (all.0, e ∙ body_bytes-cons p more)
