use Rattle.std.proofs.Common.{◌≡◌, ◌+◌, ◌-◌, ◌++◌, List, ℕ, Err, get_or, drop, take, length, arith, sym, ap, refl, ◌∙◌}
use Rattle.std.specs.Prelude.{slice_range}
use Rattle.std.proofs.lemmas.Bool.{false≢true}
use Rattle.std.proofs.lemmas.List.{take_rest}
use Rattle.sea_base.specs.declared.name.NameFault.{NameFault}
use Rattle.sea_base.specs.Field.{big_endian}
use Rattle.sea_pieces.specs.declared.piece.Piece.{Piece}
use Rattle.sea_pieces.specs.Spelling.{piece_bytes}
use Rattle.sea_base.proofs.Slices.{length-slice}
use Rattle.sea_pieces.proofs.Fields.{piece_fields, piece_read}
use Rattle.sea_pieces.proofs.spelling.read_piece.Goals as goal
use Rattle.sea_pieces.proofs.spelling.read_piece.Goals.{then-bytes-end-via-then-bytes-end, then-bytes-end-via-else-bytes-end+then-not-is_range}

pub returns-in-empty : goal.returns-in-empty
returns-in-empty c = λ piece rest found.
    let fields = piece_fields c.args.bytes.now piece rest found.0 found.1 in omega (arith, fields.long, c.in-empty.len_below)

pub returns-then-bytes-name_end : goal.returns-then-bytes-name_end
returns-then-bytes-name_end c = λ piece rest found.
    let fields = piece_fields c.args.bytes.now piece rest found.0 found.1 in omega (arith, fields.long, c.if-bytes-name_end.true)

pub returns-then-bytes-end : goal.returns-then-bytes-end
returns-then-bytes-end c = λ piece rest found.
    let bytes = c.args.bytes.now in
    let fields = piece_fields bytes piece rest found.0 found.1 in
    let offset = c.u32_at-offset.ensures.only piece.offset (omega arith) fields.offset in
    let count = c.u32_at-count.ensures.only (length piece.bytes) (omega arith) fields.count in
    elim c.then-bytes-end.branch [
      | then-bytes-end-via-then-bytes-end w ↦ omega (arith, fields.long, count, w.if-bytes-end.true)
      | then-bytes-end-via-else-bytes-end+then-not-is_range w ↦ false≢true (w.if-not-is_range.ensures.1 (omega (arith, offset, count, found.0.1)))
    ]

pub returns-in-Err-BadName : goal.returns-in-Err-BadName
returns-in-Err-BadName c = λ piece rest found.
    let fields = piece_fields c.args.bytes.now piece rest found.0 found.1 in
    c.in-Err-BadName.ensures.bad (ap (λ (e : NameFault). Err e) c.in-Err-BadName.field-0-is) (omega (arith, ap length fields.name, found.0.0.0), omega (arith, ap length fields.name, found.0.0.1))

pub returns : goal.returns
returns c =
    let bytes = c.args.bytes.now in
    let n = get_or bytes 0 0 in
    let end = 1 + n + 8 + c.u32_at-count.result in
    let name = c.in-Ok.ensures.ok.0 in
    let piece : Piece = record { name = c.in-Ok.name; offset = c.u32_at-offset.result; bytes = c.in_ok-data.data } in
    let name_len = ap length name ∙ length-slice bytes 1 (1 + n) (omega arith) (omega arith) in
    let data_len = ap length c.in_ok-data.ensures ∙ length-slice bytes (1 + n + 8) end (omega arith) (omega arith) in
    let count : slice_range bytes (1 + n + 4) (1 + n + 4 + 4) ≡ big_endian 4 (length piece.bytes) = c.u32_at-count.ensures.spelled ∙ ap (big_endian 4) (omega (arith, data_len)) in
    let whole : bytes ≡ piece_bytes piece ++ drop end bytes = piece_read bytes n end piece (omega arith) refl (omega (arith, name_len)) (omega (arith, c.type_inv.bytes 0)) name c.u32_at-offset.ensures.spelled count c.in_ok-data.ensures (omega arith) in
    ((c.in-Ok.ensures.ok.1, omega (arith, data_len, c.if-not-is_range.ensures.0 refl)), whole ∙ ap (λ (r : List ℕ). piece_bytes piece ++ r) (rest_is bytes end))
  where
    rest_is : (bytes : List ℕ) (end : ℕ) → drop end bytes ≡ take (length bytes - end) (drop end bytes)
    rest_is bytes end = sym (take_rest bytes end)
