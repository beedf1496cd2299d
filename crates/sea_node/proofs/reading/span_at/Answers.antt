use Rattle.std.proofs.Common.{◌≡◌, ◌+◌, ℕ, length, get_or, arith, refl, sym, ap, ◌∙◌}
use Rattle.std.proofs.lemmas.Bool.{false≢true}
use Rattle.sea_base.specs.Field.{big_endian}
use Rattle.std.specs.Prelude.{slice_range}
use Rattle.sea_base.proofs.Slices.{length-slice}
use Rattle.sea_node.specs.Entries.{Entry}
use Rattle.sea_node.specs.Reading.{IsEntry, StandsAt}
use Rattle.sea_node.proofs.ReadNodes.{entry_fields, entry_read}
use Rattle.sea_node.proofs.reading.span_at.Goals as goal
use Rattle.sea_node.proofs.reading.span_at.Goals.{then-end-gt-BLOCK_BYTES-via-then-end-gt-BLOCK_BYTES, then-end-gt-BLOCK_BYTES-via-else-end-gt-BLOCK_BYTES+then-value_len-gt-VALUE_BYTES, then-end-gt-BLOCK_BYTES-via-else-end-gt-BLOCK_BYTES+else-value_len-gt-VALUE_BYTES+then-not-is_name}

pub returns-then-key_at-gt-BLOCK_BYTES : goal.returns-then-key_at-gt-BLOCK_BYTES
returns-then-key_at-gt-BLOCK_BYTES c = λ entry rest found.
    let fields = entry_fields c.args.bytes.now c.args.at entry rest (omega arith) found in omega (arith, fields.long)

pub returns-then-end-gt-BLOCK_BYTES : goal.returns-then-end-gt-BLOCK_BYTES
returns-then-end-gt-BLOCK_BYTES c = λ entry rest found.
    let at = c.args.at in
    let fields = entry_fields c.args.bytes.now at entry rest (omega arith) found in
    let value_len = c.u16_at-value_len.ensures.only (length entry.1) (omega (arith, found.0.1)) fields.value_len in
    let n = get_or c.args.bytes.now at 0 in
    elim c.then-end-gt-BLOCK_BYTES.branch [
      | then-end-gt-BLOCK_BYTES-via-then-end-gt-BLOCK_BYTES w ↦ omega (arith, fields.long, fields.key_len, value_len, w.if-end-gt-BLOCK_BYTES.true)
      | then-end-gt-BLOCK_BYTES-via-else-end-gt-BLOCK_BYTES+then-value_len-gt-VALUE_BYTES w ↦ omega (arith, value_len, found.0.1, w.if-value_len-gt-VALUE_BYTES.true)
      | then-end-gt-BLOCK_BYTES-via-else-end-gt-BLOCK_BYTES+else-value_len-gt-VALUE_BYTES+then-not-is_name w ↦
          let len = length-slice c.args.bytes.now (at + 3) (at + 3 + n) (omega arith) (omega (arith, fields.long, fields.key_len)) in
          false≢true (w.if-not-is_name.ensures.1 (omega (arith, len, fields.key_len, found.0.0.0), omega (arith, len, fields.key_len, found.0.0.1)))
    ]

pub returns : goal.returns
returns c =
    let at = c.args.at in
    let bytes = c.args.bytes.now in
    let n = get_or bytes at 0 in
    let end = at + 3 + n + c.u16_at-value_len.result in
    let entry : Entry = (slice_range bytes (at + 3) (at + 3 + n), slice_range bytes (at + 3 + n) end) in
    let key_len : length entry.0 ≡ n = length-slice bytes (at + 3) (at + 3 + n) (omega arith) (omega arith) ∙ omega arith in
    let value_len : length entry.1 ≡ c.u16_at-value_len.result = length-slice bytes (at + 3 + n) end (omega arith) (omega arith) ∙ omega arith in
    let is : IsEntry entry = (c.if-not-is_name.ensures.0 refl, omega (arith, value_len)) in
    let stands : StandsAt bytes at entry end =
    entry_read bytes at end entry (omega arith) (omega arith) (omega (arith, key_len, value_len)) (omega arith) is
    (sym key_len)
    (c.u16_at-value_len.ensures.spelled ∙ ap (big_endian 2) (sym value_len))
    (ap (λ (k : ℕ). slice_range bytes (at + 3) (at + 3 + k)) (sym key_len))
    (ap (λ (k : ℕ). slice_range bytes (at + 3 + k) end) (sym key_len)) in
    (record { key_first = omega arith; value_then = omega arith; within = omega arith; entry = is }, stands)
