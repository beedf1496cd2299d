use Rattle.std.proofs.Common.{◌≤◌, ◌+◌, List, ℕ, [], ◌∷◌, length, arith, ap, ◌∙◌, length-append}
use Rattle.sea_record.proofs.Payloads.{cut_none, cut_more, left_more, cut_all}
use Rattle.sea_record.proofs.payload.read_blocks.Goals as goal

pub loop-init : goal.loop-init
loop-init c = record {
  count = ap length c.new-blocks.ensures;
  left = omega arith;
  cut = cut_none {A = List ℕ} (λ b. b) c.args.bytes.now c.new-blocks.result c.new-blocks.ensures;
}

pub loop-preserved : goal.loop-preserved
loop-preserved c =
    let rest = c.loop.rest.now in
    let e = c.in_ok-push.ensures.ok in
    let long : 4096 ≤ length rest = omega (arith, c.loop.invariant.left, c.loop-test.true) in
    record {
      count = ap length e ∙ length-append c.loop.blocks (c.in_ok-new.field-0 ∷ []) ∙ ap (λ (n : ℕ). n + 1) c.loop.invariant.count;
      left = left_more rest c.split_at.result.1.now c.loop.counter c.args.count c.split_at.ensures.back long c.loop.invariant.left;
      cut = cut_more {A = List ℕ} (λ b. b) c.args.bytes.now rest c.split_at.result.1.now c.loop.blocks c.push.new.self c.in_ok-new.field-0 e c.loop.invariant.cut long (c.in_ok-new.ensures ∙ c.split_at.ensures.front) c.split_at.ensures.back;
    }

pub returns-clause-bytes : goal.returns-clause-bytes
returns-clause-bytes c =
    cut_all {A = List ℕ} (λ b. b) c.args.bytes.now c.loop.blocks c.loop.rest.now c.loop.invariant.cut (omega (arith, c.loop.invariant.left, c.loop-test.false, c.loop.auto.counter-end))

pub returns-clause-blocks : goal.returns-clause-blocks
returns-clause-blocks c = c.loop.invariant.cut.blocks
