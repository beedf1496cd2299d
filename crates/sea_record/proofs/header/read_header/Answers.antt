use Rattle.std.proofs.Common.{◌≡◌, ap, sym, ◌∙◌, arith, length}
use Rattle.std.specs.Prelude.{slice_range}
use Rattle.sea_base.specs.Field.{big_endian}
use Rattle.sea_base.proofs.Slices.{differing, equal, length-slice}
use Rattle.sea_record.specs.Header.{kind_number}
use Rattle.sea_record.specs.declared.header.Header.{Header}
use Rattle.sea_record.proofs.Headers.{marked, header_read, kind_small}
use Rattle.sea_record.proofs.header.read_header.Goals as goal
use Rattle.sea_record.proofs.header.read_header.Goals.{then-bytes-lt-HEADER_BYTES-via-then-bytes-lt-HEADER_BYTES, then-bytes-lt-HEADER_BYTES-via-else-bytes-lt-HEADER_BYTES+then-ne, then-bytes-lt-HEADER_BYTES-via-else-bytes-lt-HEADER_BYTES+else-ne+then-u32_at-ne-FORMAT}

pub returns-then-bytes-lt-HEADER_BYTES : goal.returns-then-bytes-lt-HEADER_BYTES
returns-then-bytes-lt-HEADER_BYTES c = λ h rest is e.
    let m = marked c.args.bytes.now h rest is e in
    elim c.then-bytes-lt-HEADER_BYTES.branch [
      | then-bytes-lt-HEADER_BYTES-via-then-bytes-lt-HEADER_BYTES w ↦ omega (arith, m.long, w.if-bytes-lt-HEADER_BYTES.true)
      | then-bytes-lt-HEADER_BYTES-via-else-bytes-lt-HEADER_BYTES+then-ne w ↦ differing (slice_range c.args.bytes.now 0 8) w.as_slice.result.now w.ne.result w.ne.ensures w.if-ne.true (m.magic ∙ sym w.as_slice.ensures)
      | then-bytes-lt-HEADER_BYTES-via-else-bytes-lt-HEADER_BYTES+else-ne+then-u32_at-ne-FORMAT w ↦ omega (arith, w.u32_at.ensures.only 1 (omega arith) m.format, w.if-u32_at-ne-FORMAT.true)
    ]

pub returns-in_default : goal.returns-in_default
returns-in_default c = λ h rest is e.
    let none = rw c.in_default.is at c.numbered.ensures.none in
    let m = marked c.args.bytes.now h rest is e in
    none h.kind (sym (c.u32_at-2.ensures.only (kind_number h.kind) (omega (arith, kind_small h.kind)) m.kind))

pub returns-in_default-root_fields_at : goal.returns-in_default-root_fields_at
returns-in_default-root_fields_at c = λ h rest is e.
    let none = rw c.in_default-root_fields_at.is at c.root_fields_at.ensures in
    let m = marked c.args.bytes.now h rest is e in
    none h.tail h.root (record { is_tail = is.tail; is_root = is.root; spelled = m.roots })

pub returns : goal.returns
returns c =
    let bytes = c.args.bytes.now in
    let found = rw c.in-Some-root_fields_at.is at c.root_fields_at.ensures in
    let number : kind_number c.in-Some.kind ≡ c.u32_at-2.result = rw c.in-Some.is at c.numbered.ensures.some in
    let magic = equal (slice_range bytes 0 8) c.as_slice.result.now c.ne.result c.ne.ensures c.if-ne.false ∙ c.as_slice.ensures in
    let h : Header = record { kind = c.in-Some.kind; mount = c.u64_at.result; seq = c.u64_at-2.result; place = record { 0 = c.u32_at-3.result }; payload = c.u32_at-4.result; blocks = c.u32_at-5.result; bytes = c.u32_at-6.result; commit = record { 0 = c.u64_at-3.result }; tail = c.in-Some-root_fields_at.tail; root = c.in-Some-root_fields_at.root; prev = c.digest_at.result; digest = c.digest_at-2.result } in
    let format = c.u32_at.ensures.spelled ∙ ap (big_endian 4) c.if-u32_at-ne-FORMAT.false in (
      record {
        mount = omega arith;
        seq = omega arith;
        place = omega arith;
        payload = omega arith;
        blocks = omega arith;
        bytes = omega arith;
        commit = omega arith;
        tail = found.is_tail;
        root = found.is_root;
        prev = ap length c.digest_at.ensures ∙ length-slice bytes 112 144 (omega arith) (omega arith);
        digest = ap length c.digest_at-2.ensures ∙ length-slice bytes 144 176 (omega arith) (omega arith);
      },
      header_read bytes h magic format (c.u32_at-2.ensures.spelled ∙ ap (big_endian 4) (sym number)) c.u64_at.ensures.spelled c.u64_at-2.ensures.spelled c.u32_at-3.ensures.spelled c.u32_at-4.ensures.spelled c.u32_at-5.ensures.spelled c.u32_at-6.ensures.spelled c.u64_at-3.ensures.spelled
          found.spelled c.digest_at.ensures c.digest_at-2.ensures,
    )
