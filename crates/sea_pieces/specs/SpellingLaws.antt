-- How many bytes pieces take, and that pieces are told by their bytes.
use Rattle.std.specs.Prelude.{◌≡◌, ℕ, ◌+◌, ◌<◌, List, [], ◌∷◌, ◌++◌, length, take, refl}
use Rattle.std.proofs.Common.{get_or, sym, ap, ◌∙◌, arith, append_assoc, length-append}
use Rattle.std.specs.List.{AllByRecursion, flat_map}
use Rattle.std.proofs.lemmas.List.{take_more, append-nil}
use Rattle.std.proofs.lemmas.List.Concat.{flat_map-append}
use Rattle.sea_base.specs.Field.{big_endian}
use Rattle.sea_base.proofs.Fields.{length-big_endian, same_field}
use Rattle.sea_base.proofs.Slices.{same_parts}
use Rattle.sea_pieces.specs.declared.piece.Piece.{Piece}
use Rattle.sea_pieces.specs.Spelling.{IsPiece, piece_bytes, spelling}

pub length-piece_bytes : (p : Piece) → length (piece_bytes p) ≡ 9 + length p.name + length p.bytes
unfolding piece_bytes
length-piece_bytes p =
    let n = big_endian 1 (length p.name) in
    let o = big_endian 4 p.offset in
    let l = big_endian 4 (length p.bytes) in
    omega (
      arith,
      length-append (n ++ p.name ++ o ++ l) p.bytes,
      length-append (n ++ p.name ++ o) l,
      length-append (n ++ p.name) o,
      length-append n p.name,
      length-big_endian 1 (length p.name),
      length-big_endian 4 p.offset,
      length-big_endian 4 (length p.bytes),
    )

pub spelling-more : (pieces : List Piece) (i : ℕ) (p : Piece) → i < length pieces
    → spelling (take (i + 1) pieces) ≡ spelling (take i pieces) ++ piece_bytes (get_or pieces i p)
unfolding spelling
spelling-more pieces i p below =
    ap (flat_map piece_bytes) (take_more pieces i p below)
    ∙ flat_map-append piece_bytes (take i pieces) (get_or pieces i p ∷ [])
    ∙ ap (λ (r : List ℕ). flat_map piece_bytes (take i pieces) ++ r)
    (append-nil (piece_bytes (get_or pieces i p)))

pub spelling-cons : (p : Piece) (pieces : List Piece)
    → spelling (p ∷ pieces) ≡ piece_bytes p ++ spelling pieces
unfolding spelling
spelling-cons p pieces = refl

pub spelling-append : (front back : List Piece)
    → spelling (front ++ back) ≡ spelling front ++ spelling back
unfolding spelling
spelling-append front back = flat_map-append piece_bytes front back

pub spelling-nil : spelling [] ≡ []
unfolding spelling
spelling-nil = refl

-- a piece's fields, one behind the other
pub piece_parts : (p : Piece) (rest : List ℕ)
    → piece_bytes p ++ rest
    ≡ big_endian 1 (length p.name) ++ (p.name
    ++ (big_endian 4 p.offset ++ (big_endian 4 (length p.bytes) ++ (p.bytes ++ rest))))
unfolding piece_bytes
piece_parts p rest = simp append_assoc

pub same_piece : (p q : Piece) (rs ss : List ℕ) → IsPiece p → IsPiece q
    → piece_bytes p ++ rs ≡ piece_bytes q ++ ss → (p ≡ q) × (rs ≡ ss)
same_piece p q rs ss is_p is_q e =
    let e1 = sym (piece_parts p rs) ∙ e ∙ piece_parts q ss in
    let f1 = same_field 1 (length p.name) (length q.name) _ _ (omega arith) (omega arith) e1 in
    let f2 = same_parts p.name q.name _ _ f1.0 f1.1 in
    let f3 = same_field 4 p.offset q.offset _ _ (omega arith) (omega arith) f2.1 in
    let f4 = same_field 4 (length p.bytes) (length q.bytes) _ _ (omega arith) (omega arith) f3.1 in
    let f5 = same_parts p.bytes q.bytes rs ss f4.0 f4.1 in
    let made : List ℕ → ℕ → List ℕ → Piece =
    λ n o b. record { name = n; offset = o; bytes = b } in
    let same : p ≡ q =
    ap (λ (n : List ℕ). made n p.offset p.bytes) f2.0
    ∙ ap (λ (o : ℕ). made q.name o p.bytes) f3.0
    ∙ ap (made q.name q.offset) f5.0 in
    (same, f5.1)

-- pieces and a rest that are pieces: these begin with those, and the rest is the others
pub same_front : (ps qs : List Piece) (rest : List ℕ) → AllByRecursion IsPiece ps
    → AllByRecursion IsPiece qs → spelling ps ++ rest ≡ spelling qs
    → (more : List Piece) × AllByRecursion IsPiece more × (qs ≡ ps ++ more) × (rest ≡ spelling more)
same_front [] qs rest all_p all_q e =
    (qs, all_q, refl, ap (λ (b : List ℕ). b ++ rest) (sym spelling-nil) ∙ e)
same_front (p ∷ ps) [] rest all_p all_q e =
    absurd (omega (
      arith,
      length-append (spelling (p ∷ ps)) rest,
      ap length e,
      ap length (spelling-cons p ps),
      length-append (piece_bytes p) (spelling ps),
      length-piece_bytes p,
      ap length spelling-nil,
    ))
same_front (p ∷ ps) (q ∷ qs) rest all_p all_q e =
    let e1 : piece_bytes p ++ (spelling ps ++ rest) ≡ piece_bytes q ++ spelling qs =
    sym (append_assoc (piece_bytes p) (spelling ps) rest)
    ∙ ap (λ (b : List ℕ). b ++ rest) (sym (spelling-cons p ps)) ∙ e ∙ spelling-cons q qs in
    let first = same_piece p q (spelling ps ++ rest) (spelling qs) all_p.0 all_q.0 e1 in
    let others = same_front ps qs rest all_p.1 all_q.1 first.1 in (
      others.0,
      others.1,
      ap (λ (r : Piece). r ∷ qs) (sym first.0)
          ∙ ap (λ (r : List Piece). p ∷ r) others.2,
      others.3,
    )

pub same_body : (ps qs : List Piece) → AllByRecursion IsPiece ps → AllByRecursion IsPiece qs
    → spelling ps ≡ spelling qs → ps ≡ qs
same_body ps qs all_p all_q e =
    let more = same_front ps qs [] all_p all_q (append-nil (spelling ps) ∙ e) in
    sym (append-nil ps) ∙ ap (λ (m : List Piece). ps ++ m) (sym (none more.0 more.3)) ∙ sym more.2
  where
    none : (more : List Piece) → [] ≡ spelling more → more ≡ []
    none [] e = refl
    none (p ∷ more) e = absurd (omega (
      arith,
      ap length e,
      ap length (spelling-cons p more),
      length-append (piece_bytes p) (spelling more),
      length-piece_bytes p,
    ))
