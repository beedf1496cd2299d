-- What the bytes of a record tell.
use Rattle.std.proofs.Common.{◌≡◌, ℕ, ◌+◌, ◌-◌, ◌*◌, List, ◌++◌, length, get_or, replicate, codes, refl, sym, ap, ◌∙◌, arith, append_assoc, length-append}
use Rattle.std.specs.Prelude.{slice_range}
use Rattle.std.proofs.lemmas.List.{length-replicate}
use Rattle.sea_base.specs.Field.{big_endian}
use Rattle.sea_base.proofs.Fields.{length-big_endian}
use Rattle.sea_top.specs.declared.record.Piece.{Piece}
use Rattle.sea_top.specs.declared.record.PlainRecord.{PlainRecord}
use Rattle.sea_top.specs.declared.record.header.Header.{Header}
use Rattle.sea_top.specs.Header.{header_bytes, IsHeader}
use Rattle.sea_top.specs.Record.{IsPlain, body_bytes, blocks_of, header_of, sealed, digest_of, spelling}
use Rattle.sea_top.proofs.RecordLengths.{body_fits, length-body_plain}
use Rattle.sea_top.proofs.SameHeaders.{header_parts, same_header}
use Rattle.sea_top.proofs.SamePieces.{same_body}
use Rattle.sea_base.proofs.Slices.{slice_at, same_parts}
use Rattle.sea_top.proofs.Sealing.{length-digest_of, length-header_of}

-- a record takes whole blocks
pub length-spelling : (plain : PlainRecord) → IsPlain plain → length (spelling plain) ≡ 4096 * blocks_of plain.pieces
unfolding spelling sealed
length-spelling plain is =
    let h = header_bytes (header_of plain (digest_of plain)) in
    let body = body_bytes plain.pieces in
    let rest = 4096 * blocks_of plain.pieces - (96 + length body) in
    omega (arith, length-append (h ++ body) (replicate rest 0), length-append h body, length-header_of plain is.previous (digest_of plain) (length-digest_of plain), length-replicate {A = ℕ} rest 0, body_fits plain.pieces)

-- and begins with an S, so zeros spell none
pub first_byte : (plain : PlainRecord) (behind : List ℕ) (d : ℕ) → get_or (spelling plain ++ behind) 0 d ≡ 83
unfolding spelling sealed header_bytes
first_byte plain behind d = refl

-- a record's header, its pieces, and what stands behind them
pub spelled_parts : (plain : PlainRecord) (behind : List ℕ)
    → spelling plain ++ behind ≡ header_bytes (header_of plain (digest_of plain)) ++ (body_bytes plain.pieces ++ (replicate (4096 * blocks_of plain.pieces - (96 + length (body_bytes plain.pieces))) 0 ++ behind))
unfolding spelling sealed
spelled_parts plain behind = simp append_assoc

pub IsHeader-header_of : (plain : PlainRecord) → IsPlain plain → IsHeader (header_of plain (digest_of plain))
IsHeader-header_of plain is = record {
  commit = is.commit;
  blocks = omega (arith, is.blocks);
  body_len = omega (arith, length-body_plain plain.pieces is.blocks);
  previous = is.previous;
  digest = length-digest_of plain;
}

-- a record is told by its bytes
pub same_spelled : (p q : PlainRecord) (x y : List ℕ) → IsPlain p → IsPlain q → spelling p ++ x ≡ spelling q ++ y → p ≡ q
same_spelled p q x y is_p is_q e =
    let hp = header_of p (digest_of p) in
    let hq = header_of q (digest_of q) in
    let parts = same_header hp hq _ _ (IsHeader-header_of p is_p) (IsHeader-header_of q is_q) (sym (spelled_parts p x) ∙ e ∙ spelled_parts q y) in
    let bodies = same_parts (body_bytes p.pieces) (body_bytes q.pieces) _ _ (ap (λ (h : Header). h.body_len) parts.0) parts.1 in
    let pieces = same_body p.pieces q.pieces is_p.pieces is_q.pieces bodies.0 in
    let made : Header → List Piece → PlainRecord = λ h ps. record { commit = h.commit; previous = h.previous; pieces = ps } in
    ap (λ (h : Header). made h p.pieces) parts.0 ∙ ap (made hq) pieces

-- the field of the number of blocks
pub count_field : (plain : PlainRecord) (behind : List ℕ) → IsPlain plain → slice_range (spelling plain ++ behind) 16 20 ≡ big_endian 4 (blocks_of plain.pieces)
count_field plain behind is =
    let h = header_of plain (digest_of plain) in
    let whole = spelled_parts plain behind ∙ header_parts h _ in
    ap (λ (b : List ℕ). slice_range b 16 20) (whole ∙ sym (append_assoc (codes "SEAPLAIN") (big_endian 8 plain.commit.0) _))
    ∙ slice_at (codes "SEAPLAIN" ++ big_endian 8 plain.commit.0) (big_endian 4 (blocks_of plain.pieces)) _ 16 20 (omega (arith, length-append (codes "SEAPLAIN") (big_endian 8 plain.commit.0), length-big_endian 8 plain.commit.0)) (omega (arith, length-big_endian 4 (blocks_of plain.pieces)))
