use Rattle.std.proofs.Common.{◌≡◌, ◌+◌, ◌++◌, ℕ, List, length, take, drop, arith, ap, refl, subst, ◌∙◌, append_assoc}
use Rattle.std.specs.List.{flat_map}
use Rattle.std.proofs.lemmas.List.{take_all}
use Rattle.sea_record.specs.declared.record.Placed.{Placed}
use Rattle.sea_record.proofs.Laying.{Laid, laid_first, laid_more, laid_next, laid_all}
use Rattle.sea_record.proofs.writing.put_parts.Goals as goal

pub loop-placed-init : goal.loop-placed-init
loop-placed-init c = record {
  count = refl;
  laid = laid_first (λ p. p.block) c.args.into.now c.args.front.now c.put_bytes.new.bytes 4096 c.requires.front c.put_bytes.ensures;
}

pub loop-placed-preserved : goal.loop-placed-preserved
loop-placed-preserved c =
    let at = c.loop-placed.at in
    let now = c.loop-placed.into in
    let i = c.loop-placed.placed-index in
    let items = c.items-placed-items.result.now in
    let block : c.bytes.result.now ≡ c.placed-item.result.block = c.bytes.ensures.bytes in
    let laid = subst (λ (b : List ℕ). c.put_bytes-in-loop-placed.new.bytes ≡ take at now ++ b ++ drop (at + length b) now) block c.put_bytes-in-loop-placed.ensures in
    record {
      count = omega (arith, c.loop-placed.invariant.count);
      laid = laid_more (λ p. p.block) c.args.into.now c.args.front.now now c.put_bytes-in-loop-placed.new.bytes items i at (at + 4096) c.placed-item.result c.loop-placed.invariant.laid c.loop-placed-test.true c.placed-item.is (omega (arith, c.bytes.ensures.length)) laid;
    }

pub loop-node-init : goal.loop-node-init
loop-node-init c =
    let old = c.args.into.now in
    let front = c.args.front.now in
    let at = c.loop-placed.at in
    let now = c.loop-placed.into in
    let i = c.loop-placed.placed-index in
    let items = c.items-placed-items.result.now in
    let all : take i items ≡ c.args.body.now.placed = take_all i items c.loop-placed-test.false ∙ c.items-placed-items.ensures in
    let done = subst (λ (xs : List Placed). Laid (λ p. p.block) old front xs at now) all c.loop-placed.invariant.laid in
    record {
      count = omega (arith, c.loop-placed.invariant.count, c.loop-placed-test.false, c.loop-placed.auto.placed-index-end, ap length c.items-placed-items.ensures);
      laid = laid_next {B = List ℕ} (λ p. p.block) (λ n. n) old front now c.args.body.now.placed at done;
    }

pub loop-node-preserved : goal.loop-node-preserved
loop-node-preserved c =
    let at = c.loop-node.at in
    let now = c.loop-node.into in
    let i = c.loop-node.node-index in
    let items = c.items-node-items.result.now in
    let front = c.args.front.now ++ flat_map (λ p. p.block) c.args.body.now.placed in
    let block : c.bytes-in-loop-node.result.now ≡ c.node-item.result = c.bytes-in-loop-node.ensures.bytes in
    let laid = subst (λ (b : List ℕ). c.put_bytes-in-loop-node.new.bytes ≡ take at now ++ b ++ drop (at + length b) now) block c.put_bytes-in-loop-node.ensures in
    record {
      count = omega (arith, c.loop-node.invariant.count);
      laid = laid_more {A = List ℕ} (λ n. n) c.args.into.now front now c.put_bytes-in-loop-node.new.bytes items i at (at + 4096) c.node-item.result c.loop-node.invariant.laid c.loop-node-test.true c.node-item.is (omega (arith, c.bytes-in-loop-node.ensures.length)) laid;
    }

pub returns : goal.returns
returns c =
    let old = c.args.into.now in
    let p = flat_map (λ p. p.block) c.args.body.now.placed in
    let n = flat_map {X = List ℕ} (λ n. n) c.args.body.now.nodes in
    let front = c.args.front.now in
    let back = c.args.back.now in
    let at = c.loop-node.at in
    let now = c.loop-node.into in
    let i = c.loop-node.node-index in
    let items = c.items-node-items.result.now in
    let all : take i items ≡ c.args.body.now.nodes = take_all i items c.loop-node-test.false ∙ c.items-node-items.ensures in
    let done = subst (λ (xs : List (List ℕ)). Laid {A = List ℕ} (λ n. n) old (front ++ p) xs at now) all c.loop-node.invariant.laid in
    let len : length old ≡ at + length back = omega (arith, c.loop-node.invariant.count, c.loop-node-test.false, c.loop-node.auto.node-index-end, ap length c.items-node-items.ensures, c.requires.whole) in
    laid_all {A = List ℕ} (λ n. n) old (front ++ p) now c.put_bytes-2.new.bytes back c.args.body.now.nodes at done len c.put_bytes-2.ensures ∙ ap (λ (x : List ℕ). x ++ back) (append_assoc front p n)
