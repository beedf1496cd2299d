use Rattle.sea_base.proofs.Calling.{call_none, call_spent, call_then}
use Rattle.std.proofs.Common.{inl, ◌≡◌, ◌≤◌, ◌<◌, ◌-◌, ℕ, suc, length, List, Option, refl, ap, subst, arith}
use Rattle.std.proofs.lemmas.Result.{err_from_is_err_and}
use Rattle.std.specs.Option.{option_copied}
use Rattle.sea_base.proofs.Spaces.{only_read-refl, only_read-trans}
use Rattle.sea_tree.specs.declared.walking.Walk.{Walk}
use Rattle.sea_tree.specs.Place.{meant}
use Rattle.sea_tree.specs.Walk.{addresses, Adds, IsUnderFault}
use Rattle.sea_tree.proofs.Walks.{Reads, passes_none, passes_all, adds_leaf, place_fault, below_fault, passes_more}
use Rattle.sea_tree.proofs.Listed.{listed_none, listed_more, addresses_push}
use Rattle.sea_tree.proofs.walking.+walk_below.Goals as goal

pub returns-then-node-eq0-clause-adds : goal.returns-then-node-eq0-clause-adds
returns-then-node-eq0-clause-adds g t c =
    let level : 0 ≡ c.args.node.now.level = omega (arith, c.if-node-eq0.true) in
    let after : Walk = record { pairs = c.saturating_add-walk.result; nodes = c.args.walk.now.nodes } in
    let adds = adds_leaf c.args.node.now.entries c.items-entries.result.now (option_copied c.args.upper) (g.S.Space.seen c.args.space.now) c.args.walk.now after c.items-entries.ensures c.saturating_add-walk.ensures refl in
    subst (λ (l : ℕ). Adds l c.args.node.now.entries (option_copied c.args.upper) (g.S.Space.seen c.args.space.now) (g.S.Space.seen c.args.space.now) c.args.walk.now (record { pairs = c.saturating_add-walk.result; nodes = c.args.walk.now.nodes })) level adds

pub loop-index-init : goal.loop-index-init
loop-index-init g t c = record {
  passes = passes_none (c.args.node.now.level - 1) c.args.node.now.entries (option_copied c.args.upper) (g.S.Space.seen c.args.space.now) c.args.walk.now;
  listed = listed_none (addresses c.args.walk.now) (g.S.Space.seen c.args.space.now);
  reads = only_read-refl (g.S.Space.seen c.args.space.now);
  call = call_none g.S.Space g.met.S.Space.frame c.args.space.now c.requires.ready;
}

pub returns-in_err-child-clause-reads : goal.returns-in_err-child-clause-reads
returns-in_err-child-clause-reads g t c = only_read-trans c.loop-index.invariant.reads c.node_at.ensures.reads

pub returns-in_err-push-clause-reads : goal.returns-in_err-push-clause-reads
returns-in_err-push-clause-reads g t c = only_read-trans c.loop-index.invariant.reads c.node_at.ensures.reads

pub returns-in_err-walk_below-clause-reads : goal.returns-in_err-walk_below-clause-reads
returns-in_err-walk_below-clause-reads g t c = only_read-trans c.loop-index.invariant.reads (only_read-trans c.node_at.ensures.reads c.walk_below.ensures.reads)

pub returns-in_err-child-clause-fault : goal.returns-in_err-child-clause-fault
returns-in_err-child-clause-fault g t c =
    let p = err_from_is_err_and c.from_residual-in_err-child.result c.from_residual-in_err-child.ensures.1 in
    let before = c.loop-index.invariant in
    let level : suc (c.args.node.now.level - 1) ≡ c.args.node.now.level = omega (arith, c.if-node-eq0.false) in
    let same : length c.items-entries.result.now ≡ length c.args.node.now.entries = ap length c.items-entries.ensures in
    let within : c.loop-index.index < length c.args.node.now.entries = omega (arith, c.loop-index-test.true, same) in
    let child : Reads c.args.node.now.entries (option_copied c.args.upper) c.loop-index.index c.child_at-at.result.0 (meant c.in_ok-bounds.bounds) = record { address = c.child_at-at.ensures; bounds_are = c.in_ok-bounds.ensures } in
    let fault = place_fault (c.args.node.now.level - 1) c.args.node.now.entries (option_copied c.args.upper) c.loop-index.index (g.S.Space.seen c.args.space.now) (g.S.Space.seen c.loop-index.space) c.args.walk.now c.loop-index.walk before.passes within c.child_at-at.result.0 (meant c.in_ok-bounds.bounds) child (g.S.Space.seen c.node_at.new.space) (g.met.S.Space.sound c.node_at.new.space) before.reads c.node_at.ensures.reads c.in_err-child.field-0.0 c.in_err-child.ensures.fault in
    rw (p.1, p.2) (subst (λ (l : ℕ). IsUnderFault l c.args.node.now.entries (option_copied c.args.upper) (g.S.Space.seen c.args.space.now) (g.S.Space.seen c.node_at.new.space) c.in_err-child.field-0.0) level fault)

pub returns-in_err-walk_below-clause-fault : goal.returns-in_err-walk_below-clause-fault
returns-in_err-walk_below-clause-fault g t c =
    let p = err_from_is_err_and c.from_residual-in_err-walk_below.result c.from_residual-in_err-walk_below.ensures.1 in
    let before = c.loop-index.invariant in
    let level : suc (c.args.node.now.level - 1) ≡ c.args.node.now.level = omega (arith, c.if-node-eq0.false) in
    let same : length c.items-entries.result.now ≡ length c.args.node.now.entries = ap length c.items-entries.ensures in
    let within : c.loop-index.index < length c.args.node.now.entries = omega (arith, c.loop-index-test.true, same) in
    let child : Reads c.args.node.now.entries (option_copied c.args.upper) c.loop-index.index c.child_at-at.result.0 (meant c.in_ok-bounds.bounds) = record { address = c.child_at-at.ensures; bounds_are = c.in_ok-bounds.ensures } in
    let at_level = subst (λ (l : ℕ). IsUnderFault l c.in_ok-child.child.entries (option_copied c.as_ref.result) (g.S.Space.seen c.node_at.new.space) (g.S.Space.seen c.walk_below.new.space) c.in_err-walk_below.field-0.0) c.in_ok-child.ensures.level c.in_err-walk_below.ensures.fault in
    let below = subst (λ (u : Option (List ℕ)). IsUnderFault (c.args.node.now.level - 1) c.in_ok-child.child.entries u (g.S.Space.seen c.node_at.new.space) (g.S.Space.seen c.walk_below.new.space) c.in_err-walk_below.field-0.0) c.as_ref.ensures.value at_level in
    let fault = below_fault (c.args.node.now.level - 1) c.args.node.now.entries (option_copied c.args.upper) c.loop-index.index (g.S.Space.seen c.args.space.now) (g.S.Space.seen c.loop-index.space) c.args.walk.now c.loop-index.walk before.passes within c.child_at-at.result.0 (meant c.in_ok-bounds.bounds) child (g.S.Space.seen c.node_at.new.space) (g.met.S.Space.sound c.node_at.new.space) before.reads c.node_at.ensures.reads c.in_ok-child.child.entries c.in_ok-child.ensures.known c.in_ok-child.ensures.node (g.S.Space.seen c.walk_below.new.space) c.walk_below.ensures.reads c.in_err-walk_below.field-0.0 below in
    rw (p.1, p.2) (subst (λ (l : ℕ). IsUnderFault l c.args.node.now.entries (option_copied c.args.upper) (g.S.Space.seen c.args.space.now) (g.S.Space.seen c.walk_below.new.space) c.in_err-walk_below.field-0.0) level fault)

pub loop-index-preserved : goal.loop-index-preserved
loop-index-preserved g t c =
    let before = c.loop-index.invariant in
    let same : length c.items-entries.result.now ≡ length c.args.node.now.entries = ap length c.items-entries.ensures in
    let within : c.loop-index.index < length c.args.node.now.entries = omega (arith, c.loop-index-test.true, same) in
    let child : Reads c.args.node.now.entries (option_copied c.args.upper) c.loop-index.index c.child_at-at.result.0 (meant c.in_ok-bounds.bounds) = record { address = c.child_at-at.ensures; bounds_are = c.in_ok-bounds.ensures } in
    let pushed : Walk = record { pairs = c.loop-index.walk.pairs; nodes = c.push.new.self } in
    let at_level = subst (λ (l : ℕ). Adds l c.in_ok-child.child.entries (option_copied c.as_ref.result) (g.S.Space.seen c.node_at.new.space) (g.S.Space.seen c.walk_below.new.space) (record { pairs = c.loop-index.walk.pairs; nodes = c.push.new.self }) c.walk_below.new.walk) c.in_ok-child.ensures.level c.in_ok-walk_below.ensures.adds in
    let adds = subst (λ (u : Option (List ℕ)). Adds (c.args.node.now.level - 1) c.in_ok-child.child.entries u (g.S.Space.seen c.node_at.new.space) (g.S.Space.seen c.walk_below.new.space) (record { pairs = c.loop-index.walk.pairs; nodes = c.push.new.self }) c.walk_below.new.walk) c.as_ref.ensures.value at_level in
    record {
      passes = passes_more (c.args.node.now.level - 1) c.args.node.now.entries (option_copied c.args.upper) c.loop-index.index (g.S.Space.seen c.args.space.now) (g.S.Space.seen c.loop-index.space) c.args.walk.now c.loop-index.walk before.passes within c.child_at-at.result.0 (meant c.in_ok-bounds.bounds) child (g.S.Space.seen c.node_at.new.space) (g.met.S.Space.sound c.node_at.new.space) before.reads c.node_at.ensures.reads c.in_ok-child.child.entries c.in_ok-child.ensures.known c.in_ok-child.ensures.node (g.S.Space.seen c.walk_below.new.space) c.walk_below.ensures.reads c.child_at-at.result pushed c.walk_below.new.walk refl refl c.in_ok-push.ensures.ok adds;
      listed = listed_more c.child_at-at.result.0 (addresses c.loop-index.walk) (addresses pushed) (addresses c.walk_below.new.walk) adds.nodes (g.S.Space.seen c.args.space.now) (g.S.Space.seen c.loop-index.space) (g.S.Space.seen c.node_at.new.space) (g.S.Space.seen c.walk_below.new.space)
          (addresses_push c.loop-index.walk.nodes c.push.new.self c.child_at-at.result c.in_ok-push.ensures.ok) adds.listed before.listed c.node_at.ensures.one c.in_ok-walk_below.ensures.listed;
      reads = only_read-trans before.reads (only_read-trans c.node_at.ensures.reads c.walk_below.ensures.reads);
      call = call_then g.S.Space g.met.S.Space.frame before.call (call_then g.S.Space g.met.S.Space.frame c.in_ok-child.ensures.call c.in_ok-walk_below.ensures.call);
    }

pub returns-clause-adds : goal.returns-clause-adds
returns-clause-adds g t c =
    let level : suc (c.args.node.now.level - 1) ≡ c.args.node.now.level = omega (arith, c.if-node-eq0.false) in
    let same : length c.items-entries.result.now ≡ length c.args.node.now.entries = ap length c.items-entries.ensures in
    let end : length c.args.node.now.entries ≤ c.loop-index.index = omega (arith, c.loop-index-test.false, same) in
    subst (λ (l : ℕ). Adds l c.args.node.now.entries (option_copied c.args.upper) (g.S.Space.seen c.args.space.now) (g.S.Space.seen c.loop-index.space) c.args.walk.now c.loop-index.walk) level (passes_all (c.args.node.now.level - 1) c.args.node.now.entries (option_copied c.args.upper) c.loop-index.index (g.S.Space.seen c.args.space.now) (g.S.Space.seen c.loop-index.space) c.args.walk.now c.loop-index.walk c.requires.node.some end c.loop-index.invariant.passes)

pub returns-in_err-child-clause-call : goal.returns-in_err-child-clause-call
returns-in_err-child-clause-call g t c =
    let p = err_from_is_err_and c.from_residual-in_err-child.result c.from_residual-in_err-child.ensures.1 in
    rw (p.1, p.2) (call_then g.S.Space g.met.S.Space.frame c.loop-index.invariant.call c.in_err-child.ensures.call)

pub returns-in_err-push-clause-call : goal.returns-in_err-push-clause-call
returns-in_err-push-clause-call g t c =
    let p = err_from_is_err_and c.from_residual-in_err-push.result c.from_residual-in_err-push.ensures.1 in
    rw (p.1, p.2) (call_spent g.S.Space (call_then g.S.Space g.met.S.Space.frame c.loop-index.invariant.call c.in_ok-child.ensures.call))

pub returns-in_err-walk_below-clause-call : goal.returns-in_err-walk_below-clause-call
returns-in_err-walk_below-clause-call g t c =
    let p = err_from_is_err_and c.from_residual-in_err-walk_below.result c.from_residual-in_err-walk_below.ensures.1 in
    rw (p.1, p.2) (call_then g.S.Space g.met.S.Space.frame (call_then g.S.Space g.met.S.Space.frame c.loop-index.invariant.call c.in_ok-child.ensures.call) c.in_err-walk_below.ensures.call)

pub returns-then-node-eq0-clause-listed : goal.returns-then-node-eq0-clause-listed
returns-then-node-eq0-clause-listed g t c = λ at. inl refl
