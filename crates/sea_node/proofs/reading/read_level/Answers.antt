use Rattle.std.proofs.Common.{◌≡◌, ◌++◌, List, ℕ, drop, take, length, get_or, arith, sym, ap, subst, refl, ◌∙◌, replicate}
use Rattle.std.specs.Prelude.{slice_range}
use Rattle.std.proofs.lemmas.Bool.{false≢true}
use Rattle.sea_base.proofs.Slices.{length-slice, differing, equal, zeros_long}
use Rattle.sea_node.specs.Reading.{front_bytes}
use Rattle.sea_node.proofs.ReadNodes.{front_fields, front_read}
use Rattle.sea_node.proofs.reading.read_level.Goals as goal
use Rattle.sea_node.proofs.reading.read_level.Goals.{then-ne-via-then-ne, then-ne-via-else-ne+then-level-ge-LEVELS, then-ne-via-else-ne+else-level-ge-LEVELS+then-not-is_zero}

pub returns-then-ne-clause-level : goal.returns-then-ne-clause-level
returns-then-ne-clause-level c = λ level rest within e.
    let bytes = c.bytes-bytes.result.now in
    let fields = front_fields bytes level rest (c.bytes-bytes.ensures.bytes ∙ e) in
    elim c.then-ne.branch [
      | then-ne-via-then-ne w ↦ differing (take 4 bytes) c.as_slice.result.now c.ne.result c.ne.ensures w.if-ne.true (fields.magic ∙ sym c.as_slice.ensures)
      | then-ne-via-else-ne+then-level-ge-LEVELS w ↦ omega (arith, fields.numbered, w.if-level-ge-LEVELS.true)
      | then-ne-via-else-ne+else-level-ge-LEVELS+then-not-is_zero w ↦ false≢true (w.if-not-is_zero.ensures.1 (zeros_long (slice_range bytes 5 32) 27 fields.zero))
    ]

pub returns-clause-level : goal.returns-clause-level
returns-clause-level c =
    let bytes = c.bytes-bytes.result.now in
    let same = c.bytes-bytes.ensures.bytes in
    let len : length bytes ≡ 4096 = ap length same ∙ c.bytes-bytes.ensures.length in
    let zeros = c.if-not-is_zero.ensures.0 refl ∙ ap (λ (n : ℕ). replicate n 0) (length-slice bytes 5 32 (omega arith) (omega arith)) in
    let magic = equal (take 4 bytes) c.as_slice.result.now c.ne.result c.ne.ensures c.if-ne.false ∙ c.as_slice.ensures in
    (omega arith, subst (λ (x : List ℕ). x ≡ front_bytes (get_or bytes 4 0) ++ drop 32 x) same (front_read bytes len magic zeros))
