use Rattle.std.proofs.Common.{◌≡◌, ℕ, List, length, get_or, drop, replicate, arith, ap, sym, subst, refl, ◌∙◌}
use Rattle.std.proofs.lemmas.Bool.{false≢true}
use Rattle.std.proofs.lemmas.List.{get_or_past, length-drop}
use Rattle.sea_node.specs.Reading.{StandsAt}
use Rattle.sea_node.proofs.ReadNodes.{first_from, whole_from, none_read, more_read, further, stops, ends_dirty, ends_clean}
use Rattle.sea_node.proofs.reading.read_entries.Goals as goal
use Rattle.sea_node.proofs.reading.read_entries.Goals.{then-loop-at-test+else-bytes-at-ne0, else-loop-at-test}

pub loop-at-init : goal.loop-at-init
loop-at-init c =
    let none = none_read (drop 32 c.args.block.now) c.new-entries.result c.new-entries.ensures in record { all = none.0; read = none.1; within = omega arith }

pub returns-in_default : goal.returns-in_default
returns-in_default c =
    let at = c.loop-at.at in
    let block = c.args.block.now in
    let first : get_or (drop at block) 0 0 ≡ get_or c.bytes-bytes.result.now at 0 = first_from block at ∙ ap (λ (x : List ℕ). get_or x at 0) (sym c.bytes-bytes.ensures.bytes) in
    stops (drop 32 block) (drop at block) c.loop-at.entries c.loop-at.invariant.all c.loop-at.invariant.read (λ none. c.if-bytes-at-ne0.true (sym first ∙ none)) (rw c.in_default.is at c.in_ok-entry.ensures)

pub loop-at-smaller : goal.loop-at-smaller
loop-at-smaller c =
    let on = further c.args.block.now c.loop-at.at c.in-Some.end c.in-Some.entry c.bytes-bytes.ensures.length c.loop-at-test.true (rw c.in-Some.is at c.in_ok-entry.ensures) in omega arith

pub loop-at-preserved : goal.loop-at-preserved
loop-at-preserved c =
    let block = c.args.block.now in
    let found : StandsAt block c.loop-at.at c.in-Some.entry c.in-Some.end = rw c.in-Some.is at c.in_ok-entry.ensures in
    let more = more_read (drop 32 block) (drop c.loop-at.at block) (drop c.in-Some.end block) c.loop-at.entries c.push.new.self c.in-Some.entry c.in_ok-push.ensures.ok c.loop-at.invariant.all c.loop-at.invariant.read found.1 in
    record { all = more.0; read = more.1; within = found.0 }

pub returns-then-not-is_zero : goal.returns-then-not-is_zero
returns-then-not-is_zero c =
    let at = c.loop-at.at in
    let block = c.args.block.now in
    let bytes = c.bytes-bytes.result.now in
    let same = c.bytes-bytes.ensures.bytes in
    let first : get_or (drop at block) 0 0 ≡ 0 =
    elim c.loop-at-test.branch [
      | then-loop-at-test+else-bytes-at-ne0 w ↦ first_from block at ∙ ap (λ (x : List ℕ). get_or x at 0) (sym same) ∙ w.if-bytes-at-ne0.false
      | else-loop-at-test w ↦ get_or_past (drop at block) 0 0 (omega (arith, length-drop at block, w.loop-at-test.false))
    ] in
    ends_dirty (drop 32 block) (drop at block) c.loop-at.entries c.loop-at.invariant.all c.loop-at.invariant.read first
    (λ zeros. false≢true (c.if-not-is_zero.ensures.1 (subst (λ (x : List ℕ). x ≡ replicate (length x) 0) (sym (whole_from bytes block at same)) zeros)))

pub returns : goal.returns
returns c =
    let at = c.loop-at.at in
    let block = c.args.block.now in
    let bytes = c.bytes-bytes.result.now in
    let zeros = subst (λ (x : List ℕ). x ≡ replicate (length x) 0) (whole_from bytes block at c.bytes-bytes.ensures.bytes) (c.if-not-is_zero.ensures.0 refl) in
    ends_clean (drop 32 block) (drop at block) c.loop-at.entries c.loop-at.invariant.all c.loop-at.invariant.read zeros
