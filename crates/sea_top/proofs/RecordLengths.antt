-- How many bytes pieces, headers and records take.
use Rattle.std.proofs.Common.{◌≡◌, ℕ, ◌+◌, ◌-◌, ◌*◌, ◌/◌, ◌^◌, ◌<◌, ◌≤◌, List, [], ◌∷◌, ◌++◌, length, take, drop, get_or, replicate, codes, refl, sym, ap, ◌∙◌, arith, length-append}
use Rattle.std.specs.List.{flat_map, AllByRecursion}
use Rattle.std.proofs.lemmas.List.{take_more, append-nil, take-append-drop}
use Rattle.std.proofs.lemmas.List.Concat.{flat_map-append}
use Rattle.sea_base.specs.Field.{big_endian}
use Rattle.sea_base.proofs.Fields.{length-big_endian}
use Rattle.sea_top.specs.declared.record.Piece.{Piece}
use Rattle.sea_top.specs.declared.record.header.Header.{Header}
use Rattle.sea_top.specs.Header.{header_bytes}
use Rattle.sea_top.specs.Record.{IsPiece, piece_bytes, body_bytes, blocks_of}

pub length-piece_bytes : (p : Piece) → length (piece_bytes p) ≡ 9 + length p.name + length p.bytes
unfolding piece_bytes
length-piece_bytes p =
    let n = big_endian 1 (length p.name) in
    let o = big_endian 4 p.offset in
    let l = big_endian 4 (length p.bytes) in
    omega (arith, length-append (n ++ p.name ++ o ++ l) p.bytes, length-append (n ++ p.name ++ o) l, length-append (n ++ p.name) o, length-append n p.name, length-big_endian 1 (length p.name), length-big_endian 4 p.offset, length-big_endian 4 (length p.bytes))

pub body_bytes-more : (pieces : List Piece) (i : ℕ) (p : Piece) → i < length pieces → body_bytes (take (i + 1) pieces) ≡ body_bytes (take i pieces) ++ piece_bytes (get_or pieces i p)
unfolding body_bytes
body_bytes-more pieces i p below =
    ap (flat_map piece_bytes) (take_more pieces i p below) ∙ flat_map-append piece_bytes (take i pieces) (get_or pieces i p ∷ []) ∙ ap (λ (r : List ℕ). flat_map piece_bytes (take i pieces) ++ r) (append-nil (piece_bytes (get_or pieces i p)))

pub body_bytes-cons : (p : Piece) (pieces : List Piece) → body_bytes (p ∷ pieces) ≡ piece_bytes p ++ body_bytes pieces
unfolding body_bytes
body_bytes-cons p pieces = refl

pub body_bytes-append : (front back : List Piece) → body_bytes (front ++ back) ≡ body_bytes front ++ body_bytes back
unfolding body_bytes
body_bytes-append front back = flat_map-append piece_bytes front back

pub body_bytes-nil : body_bytes [] ≡ []
unfolding body_bytes
body_bytes-nil = refl

-- the front of the pieces takes no more than all
pub length-body_front : (pieces : List Piece) (i : ℕ) → length (body_bytes (take i pieces)) ≤ length (body_bytes pieces)
length-body_front pieces i =
    omega (arith, length-append (body_bytes (take i pieces)) (body_bytes (drop i pieces)), ap length (sym (body_bytes-append (take i pieces) (drop i pieces)) ∙ ap body_bytes (take-append-drop i pieces)))

-- one piece more
pub length-body_more : (pieces : List Piece) (i : ℕ) (p : Piece) → i < length pieces → p ≡ get_or pieces i p → length (body_bytes (take (i + 1) pieces)) ≡ length (body_bytes (take i pieces)) + length (piece_bytes p)
length-body_more pieces i p below e =
    ap length (body_bytes-more pieces i p below) ∙ length-append (body_bytes (take i pieces)) (piece_bytes (get_or pieces i p)) ∙ ap (λ (q : Piece). length (body_bytes (take i pieces)) + length (piece_bytes q)) (sym e)

length-body_pieces : (pieces : List Piece) → AllByRecursion IsPiece pieces → length (body_bytes pieces) ≤ 16777289 * length pieces
length-body_pieces [] all = omega (arith, ap length body_bytes-nil)
length-body_pieces (p ∷ pieces) all =
    omega (arith, ap length (body_bytes-cons p pieces), length-append (piece_bytes p) (body_bytes pieces), length-piece_bytes p, length-body_pieces pieces all.1, all.0.0.1, all.0.1)

-- the pieces of a request
pub length-body_few : (pieces : List Piece) → AllByRecursion IsPiece pieces → length pieces ≤ 16 → length (body_bytes pieces) < 2 ^ 32 - 8192
length-body_few pieces all few = omega (arith, length-body_pieces pieces all)

pub blocks_of_is : (pieces : List Piece) → blocks_of pieces ≡ (96 + length (body_bytes pieces) + 4095) / 4096
unfolding blocks_of
blocks_of_is pieces = refl

-- the pieces of a record
pub length-body_plain : (pieces : List Piece) → blocks_of pieces ≤ 1024 → length (body_bytes pieces) < 2 ^ 32 - 8192
length-body_plain pieces few = omega (arith, blocks_of_is pieces)

-- a record has room for its pieces
pub body_fits : (pieces : List Piece) → 96 + length (body_bytes pieces) ≤ 4096 * blocks_of pieces
body_fits pieces = omega (arith, blocks_of_is pieces)

pub length-header_bytes : (h : Header) → length h.previous.0 ≡ 32 → length h.digest.0 ≡ 32 → length (header_bytes h) ≡ 96
unfolding header_bytes
length-header_bytes h p d =
    let m = codes "SEAPLAIN" in
    let c = big_endian 8 h.commit.0 in
    let b = big_endian 4 h.blocks in
    let l = big_endian 4 h.body_len in
    let z = replicate {A = ℕ} 8 0 in
    omega (arith, length-append (m ++ c ++ b ++ l ++ z ++ h.previous.0) h.digest.0, length-append (m ++ c ++ b ++ l ++ z) h.previous.0, length-append (m ++ c ++ b ++ l) z, length-append (m ++ c ++ b) l, length-append (m ++ c) b, length-append m c, length-big_endian 8 h.commit.0, length-big_endian 4 h.blocks, length-big_endian 4 h.body_len)
