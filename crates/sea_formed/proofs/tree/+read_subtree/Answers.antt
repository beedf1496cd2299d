use Rattle.std.proofs.Common.{rules, ◌≡◌, ◌-◌, ℕ, suc, ◌≤◌, ◌<◌, List, Option, length, arith, refl, ap, ◌∙◌}
use Rattle.std.proofs.lemmas.Result.{err_from_is_err_and}
use Rattle.sea_tree.specs.Tree.{child_bounds}
use Rattle.sea_formed.specs.Blocks.{store_of}
use Rattle.sea_formed.specs.Place.{meant}
use Rattle.sea_formed.proofs.Refuted.{refutes_more}
use Rattle.sea_formed.proofs.Walks.{collects_none, collects_all, collects_more, child_of}
use Rattle.sea_formed.proofs.tree.+read_subtree.Goals as goal

pub loop-index-init : goal.loop-index-init
loop-index-init t c = collects_none (store_of c.args.blocks.now) (c.args.level - 1) c.args.at c.in_ok-node.node.entries c.args.bounds.now.upper _ _ (search rules) (search rules)

pub loop-index-preserved : goal.loop-index-preserved
loop-index-preserved t c =
    let same : length c.items-index-end.result.now ≡ length c.in_ok-node.node.entries = ap length c.items-index-end.ensures in
    let within : c.loop-index.index < length c.in_ok-node.node.entries = omega (arith, same, c.loop-index-test.true) in
    collects_more (store_of c.args.blocks.now) (c.args.level - 1) c.args.at c.in_ok-node.node.entries c.args.bounds.now.upper c.loop-index.index _ _ c.loop-index.invariant within c.child_at-child.result (meant c.in_ok-asked.asked) c.child_at-child.ensures (λ before after entry s. c.in_ok-asked.ensures before after entry s ∙ ap (λ (u : Option (List ℕ)). child_bounds entry after u) c.as_ref.ensures.value) c.in_ok-below.below.pairs.items c.in_ok-below.below.nodes.items c.in_ok-below.ensures.holds _ _ c.in_ok-append.ensures.pairs c.in_ok-append.ensures.nodes

pub returns-in_err-below-clause-wrong : goal.returns-in_err-below-clause-wrong
returns-in_err-below-clause-wrong t c =
    let p = err_from_is_err_and c.from_residual-in_err-below.result c.from_residual-in_err-below.ensures.1 in
    let same : length c.items-index-end.result.now ≡ length c.in_ok-node.node.entries = ap length c.items-index-end.ensures in
    let within : c.loop-index.index < length c.in_ok-node.node.entries = omega (arith, same, c.loop-index-test.true) in
    let above : suc (c.args.level - 1) ≡ c.args.level = omega (arith, c.if-level-eq0.false) in
    rw (p.1, p.2) (refutes_more c.in_err-below.field-0.0 _ _ (child_of (store_of c.args.blocks.now) (c.args.level - 1) c.args.at c.in_ok-node.node.entries c.args.bounds.now.upper c.loop-index.index _ _ c.loop-index.invariant within c.child_at-child.result (meant c.in_ok-asked.asked) c.child_at-child.ensures (λ before after entry s. c.in_ok-asked.ensures before after entry s ∙ ap (λ (u : Option (List ℕ)). child_bounds entry after u) c.as_ref.ensures.value) c.args.level above (meant c.args.bounds.now) refl c.in_ok-node.ensures.node) c.in_err-below.ensures.wrong)

pub returns-clause-holds : goal.returns-clause-holds
returns-clause-holds t c =
    let same : length c.items-index-end.result.now ≡ length c.in_ok-node.node.entries = ap length c.items-index-end.ensures in
    let end : length c.in_ok-node.node.entries ≤ c.loop-index.index = omega (arith, same, c.loop-index-test.false) in
    let above : suc (c.args.level - 1) ≡ c.args.level = omega (arith, c.if-level-eq0.false) in
    collects_all (store_of c.args.blocks.now) (c.args.level - 1) c.args.at c.in_ok-node.node.entries c.args.bounds.now.upper c.loop-index.index _ _ c.loop-index.invariant c.args.level above (meant c.args.bounds.now) refl c.in_ok-node.ensures.node end
