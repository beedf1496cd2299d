use Rattle.std.proofs.Common.{◌≡◌, List, ℕ, length, subst, sym, ap, refl, ◌∙◌, arith}
use Rattle.std.specs.Prelude.{slice_range}
use Rattle.std.proofs.lemmas.Bool.{false≢true}
use Rattle.sea_base.proofs.Slices.{length-slice}
use Rattle.sea_segment.specs.declared.header.Header.{Header}
use Rattle.sea_segment.specs.Header.{IsHeaderShape}
use Rattle.sea_segment.proofs.Headers.{Fits, header_shape, header_read, roots_of, ranges_of}
use Rattle.sea_segment.proofs.header.Header.read.Goals as goal

pub returns-then-not-is_shape-clause-none : goal.returns-then-not-is_shape-clause-none
returns-then-not-is_shape-clause-none c = λ header spells.
    false≢true (c.if-not-is_shape.ensures.1 (subst IsHeaderShape (sym c.bytes-bytes.ensures.bytes) (header_shape c.args.block.now header spells)))

pub returns-in_default-clause-none : goal.returns-in_default-clause-none
returns-in_default-clause-none c = λ header spells.
    let none = rw c.in_default.is at c.root_fields_at.ensures in
    none header.tail header.root (record {
      is_tail = spells.header.tail;
      is_root = spells.header.root;
      spelled = ap (λ (b : List ℕ). slice_range b 56 112) c.bytes-bytes.ensures.bytes ∙ roots_of c.args.block.now header spells;
    })

pub returns-then-not-has_ranges-clause-none : goal.returns-then-not-has_ranges-clause-none
returns-then-not-has_ranges-clause-none c = λ header spells.
    let same = c.bytes-bytes.ensures.bytes in
    let bytes = c.bytes-bytes.result.now in
    let whole : length bytes ≡ 4096 = ap length same ∙ c.bytes-bytes.ensures.length in
    let roots = rw c.in-Some.is at c.root_fields_at.ensures in
    let found : Header = record { segment = c.u32_at.result; mount = c.u64_at.result; seq = c.u64_at-2.result; commit = record { 0 = c.u64_at-3.result }; tail = c.in-Some.tail; root = c.in-Some.root; prev = c.digest_at.result } in
    let fits : Fits found = record {
      segment = omega arith;
      mount = omega arith;
      seq = omega arith;
      commit = omega arith;
      tail = roots.is_tail;
      root = roots.is_root;
      prev = ap length c.digest_at.ensures ∙ length-slice bytes 112 144 (omega arith) (omega arith);
    } in
    let spelled = sym same ∙ header_read bytes found whole (c.if-not-is_shape.ensures.0 refl) c.u32_at.ensures.spelled c.u64_at.ensures.spelled c.u64_at-2.ensures.spelled c.u64_at-3.ensures.spelled roots.spelled c.digest_at.ensures in
    false≢true (c.if-not-has_ranges.ensures.1 (ranges_of c.args.block.now found header fits spelled spells))

pub returns-clause-some : goal.returns-clause-some
returns-clause-some c =
    let same = c.bytes-bytes.ensures.bytes in
    let bytes = c.bytes-bytes.result.now in
    let whole : length bytes ≡ 4096 = ap length same ∙ c.bytes-bytes.ensures.length in
    let roots = rw c.in-Some.is at c.root_fields_at.ensures in
    let ranges = c.if-not-has_ranges.ensures.0 refl in
    let found : Header = record { segment = c.u32_at.result; mount = c.u64_at.result; seq = c.u64_at-2.result; commit = record { 0 = c.u64_at-3.result }; tail = c.in-Some.tail; root = c.in-Some.root; prev = c.digest_at.result } in
    record {
      header = record {
        segment = omega arith;
        mount = ranges.mount;
        seq = ranges.seq;
        commit = ranges.commit;
        tail = roots.is_tail;
        root = roots.is_root;
        prev = ap length c.digest_at.ensures ∙ length-slice bytes 112 144 (omega arith) (omega arith);
      };
      spelled = sym same ∙ header_read bytes found whole (c.if-not-is_shape.ensures.0 refl) c.u32_at.ensures.spelled c.u64_at.ensures.spelled c.u64_at-2.ensures.spelled c.u64_at-3.ensures.spelled roots.spelled c.digest_at.ensures;
    }
