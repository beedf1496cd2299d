-- What a request's pieces are, how many blocks they need, and what they make of the objects.
use Rattle.std.proofs.Common.{◌≡◌, ℕ, suc, ◌+◌, ◌*◌, ◌≤◌, List, [], ◌∷◌, ◌++◌, length, refl, sym, ap, ◌∙◌, arith, length-append}
use Rattle.std.specs.Prelude.{sum_by}
use Rattle.std.specs.List.{AllByRecursion}
use Rattle.std.specs.FinMap as map
use Rattle.std.proofs.lemmas.List.Sums.{sum_by-cons}
use Rattle.sea_plain.specs.declared.op.Op.{Op}
use Rattle.sea_plain.specs.declared.op.Op.TheVariants.{Write, Read}
use Rattle.sea_plain.specs.Op.{IsWithinLimits, data_blocks, blocks_touched}
use Rattle.sea_plain.specs.Request.{IsRequest}
use Rattle.sea_plain.specs.Objects.{ObjectMap, object_at}
use Rattle.sea_plain.specs.Answer.{after, laid, written}
use Rattle.sea_top.specs.declared.record.Piece.{Piece}
use Rattle.sea_top.specs.Record.{IsPiece, piece_bytes, body_bytes, blocks_of}
use Rattle.sea_top.specs.Trail.{after_piece, after_pieces}
use Rattle.sea_top.specs.Pieces.{pieces_asked}
use Rattle.sea_top.proofs.RecordLengths.{length-piece_bytes, body_bytes-cons, body_bytes-nil}

-- a request's pieces end within their objects
pub pieces_fit : (ops : List Op) → AllByRecursion IsWithinLimits ops → AllByRecursion IsPiece (pieces_asked ops)
pieces_fit [] within = tt
pieces_fit (Write name offset bytes ∷ ops) within = ((within.0.0, within.0.2), pieces_fit ops within.1)
pieces_fit (Read name offset count ∷ ops) within = pieces_fit ops within.1

-- there are no more than operations
pub few_pieces : (ops : List Op) → length (pieces_asked ops) ≤ length ops
few_pieces [] = omega arith
few_pieces (Write name offset bytes ∷ ops) = let h = few_pieces ops in omega arith
few_pieces (Read name offset count ∷ ops) = let h = few_pieces ops in omega arith

-- bytes take no more than the blocks that they touch
touched_blocks : (offset count : ℕ) → 1 ≤ count → count ≤ 4096 * blocks_touched offset count
touched_blocks offset count some = omega arith

bound : (all front rest name count blocks sum blocks_here len : ℕ) → all ≡ front + rest → front ≡ 9 + name + count → count ≤ 4096 * blocks_here → name ≤ 64 → rest ≤ 73 * len + 4096 * sum → blocks ≡ blocks_here + sum → all ≤ 73 * suc len + 4096 * blocks
bound all front rest name count blocks sum blocks_here len a b c d e f = omega arith

body_bound : (ops : List Op) → AllByRecursion IsWithinLimits ops → length (body_bytes (pieces_asked ops)) ≤ 73 * length ops + 4096 * sum_by data_blocks ops
body_bound [] within = omega (arith, ap length body_bytes-nil)
body_bound (Write name offset bytes ∷ ops) within =
    let piece : Piece = record { name = name; offset = offset; bytes = bytes } in
    let parts : length (body_bytes (pieces_asked (Write name offset bytes ∷ ops))) ≡ length (piece_bytes piece) + length (body_bytes (pieces_asked ops)) = ap length (body_bytes-cons piece (pieces_asked ops)) ∙ length-append (piece_bytes piece) (body_bytes (pieces_asked ops)) in
    let front : length (piece_bytes piece) ≡ 9 + length name + length bytes = length-piece_bytes piece in
    let blocks : length bytes ≤ 4096 * blocks_touched offset (length bytes) = touched_blocks offset (length bytes) within.0.1 in
    let named : length name ≤ 64 = within.0.0.1 in
    let rest : length (body_bytes (pieces_asked ops)) ≤ 73 * length ops + 4096 * sum_by data_blocks ops = body_bound ops within.1 in
    let sums : sum_by data_blocks (Write name offset bytes ∷ ops) ≡ blocks_touched offset (length bytes) + sum_by data_blocks ops = sum_by-cons data_blocks (Write name offset bytes) ops in
    bound _ _ _ _ _ _ _ _ _ parts front blocks named rest sums
body_bound (Read name offset count ∷ ops) within = omega (arith, body_bound ops within.1)

-- a request's record has at most 1,024 blocks
pub request_blocks : (ops : List Op) → IsRequest ops → blocks_of (pieces_asked ops) ≤ 1024
unfolding blocks_of
request_blocks ops request =
    omega (arith, body_bound ops request.each, request.few, request.blocks)

written_laid : (offset : ℕ) (bytes old : List ℕ) → 1 ≤ length bytes → laid offset bytes old ≡ written offset bytes old
written_laid offset [] old some = absurd (omega arith)
written_laid offset (b ∷ bytes) old some = refl

-- The pieces make of the objects what the operations do.
pub after_asked : (ops : List Op) (objects : ObjectMap) → AllByRecursion IsWithinLimits ops → after ops objects ≡ after_pieces (pieces_asked ops) objects
after_asked [] objects within = refl
after_asked (Write name offset bytes ∷ ops) objects within =
    let same = ap (λ (b : List ℕ). map.insert objects name (record (object_at objects name) { bytes = b })) (sym (written_laid offset bytes (object_at objects name).bytes within.0.1)) in
    ap (after ops) same ∙ after_asked ops (after_piece (record { name = name; offset = offset; bytes = bytes }) objects) within.1
after_asked (Read name offset count ∷ ops) objects within = after_asked ops objects within.1

pub after_pieces-append : (front back : List Piece) (objects : ObjectMap) → after_pieces (front ++ back) objects ≡ after_pieces back (after_pieces front objects)
after_pieces-append [] back objects = refl
after_pieces-append (piece ∷ front) back objects = after_pieces-append front back (after_piece piece objects)

pub no_length : {A : Type 0} (xs : List A) → length xs ≡ 0 → xs ≡ []
no_length [] e = refl
no_length (x ∷ xs) e = absurd (omega arith)
