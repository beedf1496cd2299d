use Rattle.sea_base.proofs.Calling.{call_spent, call_then}
use Rattle.std.proofs.Common.{◌≡◌, ◌-◌, ℕ, refl, sym, ap, subst, ◌∙◌, arith}
use Rattle.std.proofs.lemmas.Result.{err_from_is_err_and}
use Rattle.sea_base.proofs.Spaces.{only_read-trans, known_later}
use Rattle.sea_tree.specs.declared.path.Step.{Step}
use Rattle.sea_tree.specs.declared.path.Path.{Path}
use Rattle.sea_tree.specs.Tree.{child_bounds}
use Rattle.sea_tree.specs.Place.{meant}
use Rattle.sea_tree.specs.Path.{ComesDown, IsKnownPath}
use Rattle.sea_tree.proofs.OnPaths.{reads_root, reads_further, step_on_path}
use Rattle.sea_tree.proofs.PathSteps.{root_fault, comes_first, step_fault, is_step, comes_further, whole_path}
use Rattle.sea_tree.proofs.path.path_to.Goals as goal

pub returns-in_err-node-clause-fault : goal.returns-in_err-node-clause-fault
returns-in_err-node-clause-fault g c =
    let p = err_from_is_err_and c.from_residual.result c.from_residual.ensures.1 in
    rw (p.1, p.2) (root_fault (g.S.Space.seen c.args.space.now) (g.S.Space.seen c.root_at.new.space) c.args.root.0 c.args.key.now c.in_err-node.ensures.reads (g.met.S.Space.sound c.root_at.new.space) c.in_err-node.field-0.0 c.in_err-node.ensures.fault)

pub down-init : goal.down-init
down-init g c = record {
  down = comes_first (g.S.Space.seen c.root_at.new.space) c.args.root.0 c.args.key.now c.new-steps.result.items c.in-Some.node.level (meant c.in_ok-bounds.bounds) c.in-Some.node.entries c.new-steps.ensures.items c.in_ok-bounds.ensures (rw c.in-Some.is at c.in_ok-node.ensures.node) c.in_ok-node.ensures.known c.bytes.ensures.name;
  root = c.in_ok-node.ensures.known;
  within = reads_root c.args.root.0 c.args.key.now (g.S.Space.seen c.args.space.now) (g.S.Space.seen c.root_at.new.space) c.in_ok-node.ensures.one;
  reads = c.in_ok-node.ensures.reads;
  call = c.in_ok-node.ensures.call;
}

pub returns-in_err-next-clause-reads : goal.returns-in_err-next-clause-reads
returns-in_err-next-clause-reads g c = only_read-trans c.down.invariant.reads c.node_at.ensures.reads

pub returns-in_err-push-clause-reads : goal.returns-in_err-push-clause-reads
returns-in_err-push-clause-reads g c = only_read-trans c.down.invariant.reads c.node_at.ensures.reads

pub returns-in_err-next-clause-fault : goal.returns-in_err-next-clause-fault
returns-in_err-next-clause-fault g c =
    let p = err_from_is_err_and c.from_residual-in_err-next.result c.from_residual-in_err-next.ensures.1 in
    let before = c.down.invariant in
    let step : Step = record { at = c.down.at; node = c.down.node; index = c.index_towards-index.result; upper = c.down.bounds.upper } in
    let here = is_step (g.S.Space.seen c.down.space) (g.S.Space.seen c.node_at.new.space) c.args.root.0 c.args.key.now c.down.steps.items c.down.at.0 (meant c.down.bounds) step c.child_at-child.result.0 (meant c.in_ok-below.below) c.node_at.ensures.reads before.down c.down-test.true refl refl c.index_towards-index.ensures.within c.index_towards-index.ensures.leads c.child_at-child.ensures (λ b a e split. c.in_ok-below.ensures b a e split ∙ ap (child_bounds e a) c.as_ref.ensures.value) in
    rw (p.1, p.2) (step_fault (g.S.Space.seen c.args.space.now) (g.S.Space.seen c.node_at.new.space) c.args.root.0 c.args.key.now (only_read-trans before.reads c.node_at.ensures.reads) (g.met.S.Space.sound c.node_at.new.space) c.down.steps.items (c.down.node.level - 1) c.down.at.0 (meant c.down.bounds) step c.child_at-child.result.0 (meant c.in_ok-below.below) c.in_err-next.field-0.0 here c.in_err-next.ensures.fault)

pub down-preserved : goal.down-preserved
down-preserved g c =
    let before = c.down.invariant in
    let seen = g.S.Space.seen c.node_at.new.space in
    let step : Step = record { at = c.down.at; node = c.down.node; index = c.index_towards-index.result; upper = c.down.bounds.upper } in
    let here = is_step (g.S.Space.seen c.down.space) (g.S.Space.seen c.node_at.new.space) c.args.root.0 c.args.key.now c.down.steps.items c.down.at.0 (meant c.down.bounds) step c.child_at-child.result.0 (meant c.in_ok-below.below) c.node_at.ensures.reads before.down c.down-test.true refl refl c.index_towards-index.ensures.within c.index_towards-index.ensures.leads c.child_at-child.ensures (λ b a e split. c.in_ok-below.ensures b a e split ∙ ap (child_bounds e a) c.as_ref.ensures.value) in
    let down = comes_further seen c.args.root.0 c.args.key.now c.down.steps.items c.push.new.self.items (c.down.node.level - 1) c.down.at.0 (meant c.down.bounds) step c.child_at-child.result.0 (meant c.in_ok-below.below) c.in_ok-next.next.entries here c.in_ok-push.ensures.ok c.in_ok-next.ensures.node c.in_ok-next.ensures.known in
    record {
      down = subst (λ (l : ℕ). ComesDown (g.S.Space.seen c.node_at.new.space) c.args.root.0 c.args.key.now c.push.new.self.items l c.child_at-child.result.0 (meant c.in_ok-below.below) c.in_ok-next.next.entries) (sym c.in_ok-next.ensures.level) down;
      root = known_later c.node_at.ensures.reads c.args.root.0 before.root;
      within = reads_further c.args.root.0 c.args.key.now c.child_at-child.result.0 (g.S.Space.seen c.args.space.now) (g.S.Space.seen c.down.space) (g.S.Space.seen c.node_at.new.space) before.within c.node_at.ensures.one
          (step_on_path (g.S.Space.seen c.args.space.now) (g.S.Space.seen c.node_at.new.space) c.args.root.0 c.args.key.now (only_read-trans before.reads c.node_at.ensures.reads) (g.met.S.Space.sound c.node_at.new.space) c.down.steps.items (c.down.node.level - 1) c.down.at.0 (meant c.down.bounds) step c.child_at-child.result.0 (meant c.in_ok-below.below) here);
      reads = only_read-trans before.reads c.node_at.ensures.reads;
      call = call_then g.S.Space g.met.S.Space.frame before.call c.in_ok-next.ensures.call;
    }

pub returns-clause-whole : goal.returns-clause-whole
returns-clause-whole g c =
    let end = c.down.invariant in
    let seen = g.S.Space.seen c.down.space in
    let path : Path = record { steps = c.down.steps; at = c.down.at; leaf = c.down.node; bounds = c.down.bounds } in
    let level : c.down.node.level ≡ 0 = omega (arith, c.down-test.false) in
    let known : IsKnownPath seen c.args.root.0 c.args.key.now path = record {
      leaf_level = level;
      down = subst (λ (l : ℕ). ComesDown (g.S.Space.seen c.down.space) c.args.root.0 c.args.key.now c.down.steps.items l c.down.at.0 (meant c.down.bounds) c.down.node.entries) level end.down;
    } in
    whole_path (g.S.Space.seen c.args.space.now) seen c.args.root.0 c.args.key.now path end.reads (g.met.S.Space.sound c.down.space) known

pub returns-in_err-next-clause-within : goal.returns-in_err-next-clause-within
returns-in_err-next-clause-within g c =
    let before = c.down.invariant in
    let step : Step = record { at = c.down.at; node = c.down.node; index = c.index_towards-index.result; upper = c.down.bounds.upper } in
    let here = is_step (g.S.Space.seen c.down.space) (g.S.Space.seen c.node_at.new.space) c.args.root.0 c.args.key.now c.down.steps.items c.down.at.0 (meant c.down.bounds) step c.child_at-child.result.0 (meant c.in_ok-below.below) c.node_at.ensures.reads before.down c.down-test.true refl refl c.index_towards-index.ensures.within c.index_towards-index.ensures.leads c.child_at-child.ensures (λ b a e split. c.in_ok-below.ensures b a e split ∙ ap (child_bounds e a) c.as_ref.ensures.value) in
    reads_further c.args.root.0 c.args.key.now c.child_at-child.result.0 (g.S.Space.seen c.args.space.now) (g.S.Space.seen c.down.space) (g.S.Space.seen c.node_at.new.space) before.within c.node_at.ensures.one
    (step_on_path (g.S.Space.seen c.args.space.now) (g.S.Space.seen c.node_at.new.space) c.args.root.0 c.args.key.now (only_read-trans before.reads c.node_at.ensures.reads) (g.met.S.Space.sound c.node_at.new.space) c.down.steps.items (c.down.node.level - 1) c.down.at.0 (meant c.down.bounds) step c.child_at-child.result.0 (meant c.in_ok-below.below) here)

pub returns-in_err-push-clause-within : goal.returns-in_err-push-clause-within
returns-in_err-push-clause-within g c =
    let before = c.down.invariant in
    let step : Step = record { at = c.down.at; node = c.down.node; index = c.index_towards-index.result; upper = c.down.bounds.upper } in
    let here = is_step (g.S.Space.seen c.down.space) (g.S.Space.seen c.node_at.new.space) c.args.root.0 c.args.key.now c.down.steps.items c.down.at.0 (meant c.down.bounds) step c.child_at-child.result.0 (meant c.in_ok-below.below) c.node_at.ensures.reads before.down c.down-test.true refl refl c.index_towards-index.ensures.within c.index_towards-index.ensures.leads c.child_at-child.ensures (λ b a e split. c.in_ok-below.ensures b a e split ∙ ap (child_bounds e a) c.as_ref.ensures.value) in
    reads_further c.args.root.0 c.args.key.now c.child_at-child.result.0 (g.S.Space.seen c.args.space.now) (g.S.Space.seen c.down.space) (g.S.Space.seen c.node_at.new.space) before.within c.node_at.ensures.one
    (step_on_path (g.S.Space.seen c.args.space.now) (g.S.Space.seen c.node_at.new.space) c.args.root.0 c.args.key.now (only_read-trans before.reads c.node_at.ensures.reads) (g.met.S.Space.sound c.node_at.new.space) c.down.steps.items (c.down.node.level - 1) c.down.at.0 (meant c.down.bounds) step c.child_at-child.result.0 (meant c.in_ok-below.below) here)

pub returns-in_err-node-clause-within : goal.returns-in_err-node-clause-within
returns-in_err-node-clause-within g c = reads_root c.args.root.0 c.args.key.now (g.S.Space.seen c.args.space.now) (g.S.Space.seen c.root_at.new.space) c.in_err-node.ensures.one

pub returns-in_default-clause-within : goal.returns-in_default-clause-within
returns-in_default-clause-within g c = reads_root c.args.root.0 c.args.key.now (g.S.Space.seen c.args.space.now) (g.S.Space.seen c.root_at.new.space) c.in_ok-node.ensures.one

pub returns-in_err-bounds-clause-within : goal.returns-in_err-bounds-clause-within
returns-in_err-bounds-clause-within g c = reads_root c.args.root.0 c.args.key.now (g.S.Space.seen c.args.space.now) (g.S.Space.seen c.root_at.new.space) c.in_ok-node.ensures.one

pub returns-in_err-next-clause-call : goal.returns-in_err-next-clause-call
returns-in_err-next-clause-call g c =
    let p = err_from_is_err_and c.from_residual-in_err-next.result c.from_residual-in_err-next.ensures.1 in
    rw (p.1, p.2) (call_then g.S.Space g.met.S.Space.frame c.down.invariant.call c.in_err-next.ensures.call)

pub returns-in_err-push-clause-call : goal.returns-in_err-push-clause-call
returns-in_err-push-clause-call g c =
    let p = err_from_is_err_and c.from_residual-in_err-push.result c.from_residual-in_err-push.ensures.1 in
    rw (p.1, p.2) (call_spent g.S.Space (call_then g.S.Space g.met.S.Space.frame c.down.invariant.call c.in_ok-next.ensures.call))
