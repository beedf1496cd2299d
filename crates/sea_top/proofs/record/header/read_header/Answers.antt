use Rattle.std.proofs.Common.{◌++◌, List, ℕ, drop, take, length, arith, sym, ap, refl, ◌∙◌, replicate, take-append-drop}
use Rattle.std.specs.Prelude.{slice_range}
use Rattle.std.proofs.lemmas.Bool.{false≢true}
use Rattle.sea_top.specs.declared.record.header.Header.{Header}
use Rattle.sea_base.proofs.Slices.{length-slice, differing, equal, zeros_long}
use Rattle.sea_top.proofs.ReadFields.{header_fields, header_read}
use Rattle.sea_top.proofs.record.header.read_header.Goals as goal
use Rattle.sea_top.proofs.record.header.read_header.Goals.{then-bytes-lt-HEADER_BYTES-via-then-bytes-lt-HEADER_BYTES, then-bytes-lt-HEADER_BYTES-via-else-bytes-lt-HEADER_BYTES+then-ne, then-bytes-lt-HEADER_BYTES-via-else-bytes-lt-HEADER_BYTES+else-ne+then-not-is_zero}

pub returns-then-bytes-lt-HEADER_BYTES : goal.returns-then-bytes-lt-HEADER_BYTES
returns-then-bytes-lt-HEADER_BYTES c = λ h rest is e.
    let fields = header_fields c.args.bytes.now h rest is e in
    elim c.then-bytes-lt-HEADER_BYTES.branch [
      | then-bytes-lt-HEADER_BYTES-via-then-bytes-lt-HEADER_BYTES w ↦ absurd (omega (arith, fields.long))
      | then-bytes-lt-HEADER_BYTES-via-else-bytes-lt-HEADER_BYTES+then-ne w ↦ differing (take 8 c.args.bytes.now) w.as_slice.result.now w.ne.result w.ne.ensures w.if-ne.true (fields.magic ∙ sym w.as_slice.ensures)
      | then-bytes-lt-HEADER_BYTES-via-else-bytes-lt-HEADER_BYTES+else-ne+then-not-is_zero w ↦ false≢true (w.if-not-is_zero.ensures.1 (zeros_long (slice_range c.args.bytes.now 24 32) 8 fields.zero))
    ]

pub returns : goal.returns
returns c =
    let bytes = c.args.bytes.now in
    let zero = c.if-not-is_zero.ensures.0 refl ∙ ap (λ (n : ℕ). replicate n 0) (length-slice bytes 24 32 (omega arith) (omega arith)) in
    let magic = equal (take 8 bytes) c.as_slice.result.now c.ne.result c.ne.ensures c.if-ne.false ∙ c.as_slice.ensures in
    let h : Header = record { commit = record { 0 = c.u64_at.result }; blocks = c.u32_at.result; body_len = c.u32_at-2.result; previous = c.digest_at.result; digest = c.digest_at-2.result } in (
      record {
        commit = omega arith;
        blocks = omega arith;
        body_len = omega arith;
        previous = ap length c.digest_at.ensures ∙ length-slice bytes 32 64 (omega arith) (omega arith);
        digest = ap length c.digest_at-2.ensures ∙ length-slice bytes 64 96 (omega arith) (omega arith);
      },
      sym (take-append-drop 96 bytes) ∙ ap (λ (x : List ℕ). x ++ drop 96 bytes) (sym (header_read bytes h magic c.u64_at.ensures.spelled c.u32_at.ensures.spelled c.u32_at-2.ensures.spelled zero c.digest_at.ensures c.digest_at-2.ensures)),
    )
