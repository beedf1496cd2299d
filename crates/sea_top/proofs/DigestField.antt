-- Where a record's own digest stands.
use Rattle.std.proofs.Common.{◌≡◌, ℕ, List, ◌++◌, length, replicate, codes, ap, ◌∙◌, arith, append_assoc, length-append}
use Rattle.std.specs.Prelude.{slice_range}
use Rattle.sea_base.specs.Field.{big_endian}
use Rattle.sea_top.specs.declared.record.PlainRecord.{PlainRecord}
use Rattle.sea_top.specs.Header.{header_bytes}
use Rattle.sea_top.specs.Record.{IsPlain, blocks_of, body_bytes, digest_of, spelling}
use Rattle.sea_top.proofs.RecordBytes.{spelled_parts}
use Rattle.sea_top.proofs.Sealing.{length-digest_of, length-header_of}
use Rattle.sea_base.proofs.Slices.{slice_at}

-- the field of the record's own digest
pub digest_field : (plain : PlainRecord) (behind : List ℕ) → IsPlain plain → slice_range (spelling plain ++ behind) 64 96 ≡ digest_of plain
unfolding header_bytes
digest_field plain behind is =
    let front = codes "SEAPLAIN" ++ big_endian 8 plain.commit.0 ++ big_endian 4 (blocks_of plain.pieces) ++ big_endian 4 (length (body_bytes plain.pieces)) ++ replicate 8 0 ++ plain.previous.0 in
    let digest = digest_of plain in
    ap (λ (b : List ℕ). slice_range b 64 96) (spelled_parts plain behind ∙ append_assoc front digest _)
    ∙ slice_at front digest _ 64 96 (omega (arith, length-append front digest, length-header_of plain is.previous digest (length-digest_of plain), length-digest_of plain)) (omega (arith, length-digest_of plain))
