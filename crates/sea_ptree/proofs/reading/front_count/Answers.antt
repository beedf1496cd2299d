use Rattle.std.proofs.Common.{◌≡◌, ℕ, ◌+◌, ◌*◌, List, take, drop, length, replicate, refl, ◌-◌, subst, ap, sym, ◌∙◌, arith}
use Rattle.std.specs.Prelude.{slice_range}
use Rattle.std.proofs.lemmas.Bool.{false≢true}
use Rattle.std.proofs.lemmas.List.{take_rest}
use Rattle.sea_base.proofs.Slices.{length-slice, differing, equal, zeros_long}
use Rattle.sea_ptree.proofs.Fronts.{front_fields, front_from, count_from}
use Rattle.sea_ptree.proofs.reading.front_count.Goals as goal
use Rattle.sea_ptree.proofs.reading.front_count.Goals.{then-count-eq0-via-then-count-eq0, then-count-eq0-via-else-count-eq0+then-count-gt-MOST_ENTRIES}
use Rattle.sea_ptree.proofs.reading.front_count.Goals.{then-ne-via-then-ne, then-ne-via-else-ne+then-ne-2}
use Rattle.sea_ptree.proofs.reading.front_count.Goals.{then-not-is_zero-via-then-not-is_zero, then-not-is_zero-via-else-not-is_zero+then-not-is_zero-2}

pub returns-then-count-eq0-clause-none : goal.returns-then-count-eq0-clause-none
returns-then-count-eq0-clause-none c count front =
    let is = count_from c.args.kind c.args.level c.args.block.now c.bytes-bytes.result.now count c.u16_at-count.result c.bytes-bytes.ensures.bytes c.u16_at-count.ensures.only front in
    elim c.then-count-eq0.branch [
      | then-count-eq0-via-then-count-eq0 w ↦ omega (arith, is, front.some, w.if-count-eq0.true)
      | then-count-eq0-via-else-count-eq0+then-count-gt-MOST_ENTRIES w ↦ omega (arith, is, front.room, w.if-count-gt-MOST_ENTRIES.true)
    ]

pub returns-then-ne-clause-none : goal.returns-then-ne-clause-none
returns-then-ne-clause-none c count front =
    let bytes = c.bytes-bytes.result.now in
    let fields = front_fields c.args.kind c.args.level bytes count (ap (take 32) c.bytes-bytes.ensures.bytes ∙ front.front) in
    elim c.then-ne.branch [
      | then-ne-via-then-ne w ↦ differing (take 4 bytes) c.as_slice.result.now c.ne.result c.ne.ensures w.if-ne.true (fields.magic ∙ sym c.word.ensures ∙ sym c.as_slice.ensures)
      | then-ne-via-else-ne+then-ne-2 w ↦ differing (slice_range bytes 4 6) w.as_slice-else-ne.result.now w.ne-else-ne.result w.ne-else-ne.ensures w.if-ne-2.true (fields.level_is ∙ sym w.as_slice-else-ne.ensures)
    ]

pub returns-then-not-is_zero-clause-none : goal.returns-then-not-is_zero-clause-none
returns-then-not-is_zero-clause-none c count front =
    let bytes = c.bytes-bytes.result.now in
    let same = c.bytes-bytes.ensures.bytes in
    let n = c.u16_at-count.result in
    let is = count_from c.args.kind c.args.level c.args.block.now bytes count n same c.u16_at-count.ensures.only front in
    let fields = front_fields c.args.kind c.args.level bytes count (ap (take 32) same ∙ front.front) in
    elim c.then-not-is_zero.branch [
      | then-not-is_zero-via-then-not-is_zero w ↦ false≢true (w.if-not-is_zero.ensures.1 (zeros_long (slice_range bytes 8 32) 24 fields.zeros))
      | then-not-is_zero-via-else-not-is_zero+then-not-is_zero-2 w ↦ (
          let end = 32 + 28 * n in
          let zeros : drop end bytes ≡ replicate (4064 - 28 * count) 0 = ap (λ (k : ℕ). drop (32 + 28 * k) bytes) is ∙ ap (drop (32 + 28 * count)) same ∙ front.zeros in
          false≢true (w.if-not-is_zero-2.ensures.1 (zeros_long _ (4064 - 28 * count) (take_rest bytes end ∙ zeros)))
          )
    ]

pub returns-clause-some : goal.returns-clause-some
returns-clause-some c =
    let bytes = c.bytes-bytes.result.now in
    let same = c.bytes-bytes.ensures.bytes in
    let end = 32 + 28 * c.u16_at-count.result in
    let len : length bytes ≡ 4096 = ap length same ∙ c.bytes-bytes.ensures.length in
    let zeros = c.if-not-is_zero-2.ensures.0 refl in
    front_from c.args.kind c.args.level c.args.block.now bytes c.u16_at-count.result same c.bytes-bytes.ensures.length (omega arith) (omega arith) (record {
      magic = equal (take 4 bytes) c.as_slice.result.now c.ne.result c.ne.ensures c.if-ne.false ∙ c.as_slice.ensures ∙ c.word.ensures;
      level_is = equal (slice_range bytes 4 6) c.as_slice-else-ne.result.now c.ne-else-ne.result c.ne-else-ne.ensures c.if-ne-2.false ∙ c.as_slice-else-ne.ensures;
      count_is = c.u16_at-count.ensures.spelled;
      zeros = c.if-not-is_zero.ensures.0 refl ∙ ap (λ (n : ℕ). replicate n 0) (length-slice bytes 8 32 (omega arith) (omega arith));
    }) (subst (λ (x : List ℕ). x ≡ replicate (length x) 0) (take_rest bytes end) zeros)
