-- The fields that stand in the bytes of a piece.
use Rattle.std.proofs.Common.{◌≡◌, ℕ, ◌+◌, ◌<◌, ◌≤◌, List, [], ◌∷◌, ◌++◌, length, get_or, take, drop, refl, sym, ap, subst, ◌∙◌, arith, append_assoc, length-append, take-append-drop}
use Rattle.std.specs.Prelude.{slice_range}
use Rattle.sea_base.specs.Field.{big_endian}
use Rattle.sea_base.proofs.Fields.{length-big_endian, one_byte}
use Rattle.sea_base.proofs.Slices.{slice_at, slice_then}
use Rattle.sea_pieces.specs.declared.piece.Piece.{Piece}
use Rattle.sea_pieces.specs.Spelling.{IsPiece, piece_bytes}
use Rattle.sea_pieces.specs.SpellingLaws.{length-piece_bytes}
use Rattle.sea_pieces.specs.SpellingLaws.{piece_parts}

-- where the fields of a piece stand, whose name has n bytes
pub record PieceFields (bytes : List ℕ) (n : ℕ) (p : Piece) : Type 0 where
  pub first : n ≡ length p.name
  pub long : 9 + n + length p.bytes ≤ length bytes
  pub name : slice_range bytes 1 (1 + n) ≡ p.name
  pub offset : slice_range bytes (1 + n) (1 + n + 4) ≡ big_endian 4 p.offset
  pub count : slice_range bytes (1 + n + 4) (1 + n + 4 + 4) ≡ big_endian 4 (length p.bytes)

pub piece_fields : (bytes : List ℕ) (p : Piece) (rest : List ℕ) → IsPiece p → bytes ≡ piece_bytes p ++ rest → PieceFields bytes (get_or bytes 0 0) p
piece_fields bytes p rest is e =
    subst (λ (n : ℕ). PieceFields bytes n p) (sym first) (record {
      first = refl;
      long = omega (arith, ap length e, length-append (piece_bytes p) rest, length-piece_bytes p);
      name = ap (λ (x : List ℕ). slice_range x 1 (1 + n)) whole ∙ slice_at (n ∷ []) p.name (o ++ (l ++ (p.bytes ++ rest))) 1 (1 + n) refl refl;
      offset = ap (λ (x : List ℕ). slice_range x (1 + n) (1 + n + 4)) whole ∙ slice_at (n ∷ p.name) o (l ++ (p.bytes ++ rest)) (1 + n) (1 + n + 4) (omega arith) (omega (arith, length-big_endian 4 p.offset));
      count = ap (λ (x : List ℕ). slice_range x (1 + n + 4) (1 + n + 4 + 4)) (whole ∙ ap (λ (x : List ℕ). n ∷ x) (sym (append_assoc p.name o (l ++ (p.bytes ++ rest))))) ∙ slice_at (n ∷ (p.name ++ o)) l (p.bytes ++ rest) (1 + n + 4) (1 + n + 4 + 4) (omega (arith, length-append p.name o, length-big_endian 4 p.offset)) (omega (arith, length-big_endian 4 (length p.bytes)));
    })
  where
    n : ℕ
    n = length p.name

    o : List ℕ
    o = big_endian 4 p.offset

    l : List ℕ
    l = big_endian 4 (length p.bytes)

    whole : bytes ≡ n ∷ (p.name ++ (o ++ (l ++ (p.bytes ++ rest))))
    whole = e ∙ piece_parts p rest ∙ ap (λ (x : List ℕ). x ++ (p.name ++ (o ++ (l ++ (p.bytes ++ rest))))) (sym (one_byte n (omega arith)))

    first : get_or bytes 0 0 ≡ n
    first = ap (λ (x : List ℕ). get_or x 0 0) whole

-- what is read makes the piece's bytes
pub piece_read : (bytes : List ℕ) (n end : ℕ) (p : Piece) → 1 ≤ length bytes → n ≡ get_or bytes 0 0 → n ≡ length p.name → n < 256 → p.name ≡ slice_range bytes 1 (1 + n) → slice_range bytes (1 + n) (1 + n + 4) ≡ big_endian 4 p.offset
    → slice_range bytes (1 + n + 4) (1 + n + 4 + 4) ≡ big_endian 4 (length p.bytes) → p.bytes ≡ slice_range bytes (1 + n + 8) end → 1 + n + 8 ≤ end → bytes ≡ piece_bytes p ++ drop end bytes
unfolding piece_bytes
piece_read bytes n end p some first len below name offset count tail le =
    let s : ℕ → ℕ → List ℕ = slice_range bytes in
    let o = big_endian 4 p.offset in
    let l = big_endian 4 (length p.bytes) in
    let front : big_endian 1 (length p.name) ≡ s 0 1 = ap (big_endian 1) (sym len) ∙ sym (one_byte n below) ∙ ap (λ (x : ℕ). x ∷ []) first ∙ one bytes some in
    let made : piece_bytes p ≡ take end bytes =
    ap (λ (x : List ℕ). x ++ p.name ++ o ++ l ++ p.bytes) front
    ∙ ap (λ (x : List ℕ). s 0 1 ++ x ++ o ++ l ++ p.bytes) name
    ∙ ap (λ (x : List ℕ). s 0 1 ++ s 1 (1 + n) ++ x ++ l ++ p.bytes) (sym offset)
    ∙ ap (λ (x : List ℕ). s 0 1 ++ s 1 (1 + n) ++ s (1 + n) (1 + n + 4) ++ x ++ p.bytes) (sym count)
    ∙ ap (λ (x : List ℕ). s 0 1 ++ s 1 (1 + n) ++ s (1 + n) (1 + n + 4) ++ s (1 + n + 4) (1 + n + 4 + 4) ++ x) (tail ∙ ap (λ (k : ℕ). s k end) (omega arith))
    ∙ ap (λ (x : List ℕ). x ++ s (1 + n) (1 + n + 4) ++ s (1 + n + 4) (1 + n + 4 + 4) ++ s (1 + n + 4 + 4) end) (slice_then bytes 0 1 (1 + n) (omega arith) (omega arith))
    ∙ ap (λ (x : List ℕ). x ++ s (1 + n + 4) (1 + n + 4 + 4) ++ s (1 + n + 4 + 4) end) (slice_then bytes 0 (1 + n) (1 + n + 4) (omega arith) (omega arith))
    ∙ ap (λ (x : List ℕ). x ++ s (1 + n + 4 + 4) end) (slice_then bytes 0 (1 + n + 4) (1 + n + 4 + 4) (omega arith) (omega arith))
    ∙ slice_then bytes 0 (1 + n + 4 + 4) end (omega arith) (omega arith)
    ∙ ap (λ (k : ℕ). take k bytes) (omega arith) in
    sym (take-append-drop end bytes) ∙ ap (λ (x : List ℕ). x ++ drop end bytes) (sym made)
  where
    one : (xs : List ℕ) → 1 ≤ length xs → get_or xs 0 0 ∷ [] ≡ slice_range xs 0 1
    one [] some = absurd (omega arith)
    one (x ∷ xs) some = refl
