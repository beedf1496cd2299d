use Rattle.sea_base.proofs.Calling.{call_none, call_then}
use Rattle.std.proofs.Common.{rules, ◌≡◌, ◌+◌, [], ◌∷◌, length, ◌∙◌, ap, arith, length-append}
use Rattle.std.proofs.lemmas.Result.{err_from_is_err_and}
use Rattle.std.specs.Option.{option_copied}
use Rattle.sea_tree.specs.Plan.{plan_changes, plan_fills}
use Rattle.sea_tree.proofs.Doing.{Does-then}
use Rattle.sea_tree.proofs.Performing.{unchanged_since, nothing_planned, nothing_filled}
use Rattle.sea_tree.proofs.Nears.{none_near, nothing_near, climb_near}
use Rattle.sea_tree.proofs.Forms.{completes_begun, completes_up, completes_here, completes_root}
use Rattle.sea_tree.specs.declared.edit.Edit.TheVariants.{Pair}
use Rattle.sea_tree.proofs.Mended.{root_reached, begins, turns, goes_up, ends, ends_own, comes_to_root, roots, roots_own, rebalance_fault, root_fault, nothing_left}
use Rattle.sea_tree.proofs.changing.mended.Goals as goal
use Rattle.sea_tree.proofs.changing.mended.Goals.{in-Some+in_ok-copy-in-Some, in-None}

pub up-init : goal.up-init
up-init g c =
    let begun = begins (g.S.Space.seen c.args.space.now) c.args.root.0 c.args.key.now (option_copied c.args.value) c.args.path (g.met.S.Space.sound c.args.space.now) c.bytes.ensures.name c.requires.value c.requires.path in
    let key : c.in_ok-copy.field-0 ≡ c.args.key.now = c.in_ok-copy.ensures in
    let value : c.match-value.value ≡ option_copied c.args.value = elim c.match-value.branch [ in-Some+in_ok-copy-in-Some w ↦ search rules | in-None w ↦ search rules ] in
    let none : plan_changes c.new-plan.result ≡ [] = nothing_planned c.new-plan.result c.new-plan.ensures.writes c.new-plan.ensures.splice in
    let nothing : plan_fills c.new-plan.result ≡ 0 = nothing_filled c.new-plan.result c.new-plan.ensures.writes c.new-plan.ensures.splice in
    record {
      climbs = rw (key, value, none) begun.0;
      form = rw (key, value, none) (completes_begun c.args.path.steps.items c.args.path.leaf.level c.args.path.at.0 c.args.path.leaf.entries (Pair c.args.key.now (option_copied c.args.value)) (g.S.Space.seen c.args.space.now) c.requires.path.leaf_level);
      near = none_near c.args.root.0 c.args.key.now (g.S.Space.seen c.args.space.now);
      few = omega (arith, begun.1, nothing);
      first = c.new-plan.ensures.splice;
      next = omega (arith, begun.1);
      call = call_none g.S.Space g.met.S.Space.frame c.args.space.now c.requires.ready;
    }

pub rebalance-requires-clause-parent : goal.rebalance-requires-clause-parent
rebalance-requires-clause-parent g c = (turns _ _ _ _ _ _ _ _ _ _ _ _ _ c.in-Some-pop.ensures.items c.up.invariant.climbs).0.parent

pub rebalance-requires-clause-level : goal.rebalance-requires-clause-level
rebalance-requires-clause-level g c = let t = turns _ _ _ _ _ _ _ _ _ _ _ _ _ c.in-Some-pop.ensures.items c.up.invariant.climbs in omega (arith, t.0.level_is)

pub rebalance-requires-clause-index : goal.rebalance-requires-clause-index
rebalance-requires-clause-index g c = (turns _ _ _ _ _ _ _ _ _ _ _ _ _ c.in-Some-pop.ensures.items c.up.invariant.climbs).0.within

pub rebalance-requires-clause-child : goal.rebalance-requires-clause-child
rebalance-requires-clause-child g c = (turns _ _ _ _ _ _ _ _ _ _ _ _ _ c.in-Some-pop.ensures.items c.up.invariant.climbs).0.child

pub rebalance-requires-clause-known : goal.rebalance-requires-clause-known
rebalance-requires-clause-known g c = (turns _ _ _ _ _ _ _ _ _ _ _ _ _ c.in-Some-pop.ensures.items c.up.invariant.climbs).0.known

pub rebalance-requires-clause-node : goal.rebalance-requires-clause-node
rebalance-requires-clause-node g c = (turns _ _ _ _ _ _ _ _ _ _ _ _ _ c.in-Some-pop.ensures.items c.up.invariant.climbs).1

pub up-preserved : goal.up-preserved
up-preserved g c =
    let was = c.up.invariant in
    let rebalanced = rw c.in-Some-2.is at c.in_ok-left.ensures.rebalanced in
    let goes = c.in_ok-left.ensures.reads in
    let steps : length c.up.steps.items ≡ length c.pop.new.self.items + 1 = ap length c.in-Some-pop.ensures.items ∙ length-append c.pop.new.self.items (c.in-Some-pop.parent ∷ []) in
    record {
      climbs = goes_up _ _ _ _ _ _ _ _ _ _ _ _ _ _ _ _ _ (g.met.S.Space.sound c.args.space.now) (omega (arith, was.next, c.requires.room)) c.in-Some-pop.ensures.items was.climbs rebalanced.1 rebalanced.2 goes;
      form = completes_up _ _ _ _ _ _ _ _ _ _ _ _ _ c.in-Some-pop.ensures.items rebalanced.1 was.form _ rebalanced.2;
      near = climb_near (g.S.Space.seen c.args.space.now) (g.S.Space.seen c.up.space) (g.S.Space.seen c.rebalance.new.space) c.args.root.0 c.args.key.now (option_copied c.args.value) (g.met.S.Space.sound c.args.space.now) _ _ _ _ _ _ _ _ _ _ c.in-Some-pop.ensures.items was.climbs c.in_ok-left.ensures.reads was.near rebalanced.2;
      few = omega (arith, was.few, c.in_ok-left.ensures.few, steps);
      first = rw c.in-Some-2.is at c.in_ok-left.ensures.last;
      next = omega (arith, was.next, c.in_ok-left.ensures.next, steps);
      call = call_then g.S.Space g.met.S.Space.frame was.call c.in_ok-left.ensures.call;
    }

pub up-preserved-in-Some-2 : goal.up-preserved-in-Some-2
up-preserved-in-Some-2 g c =
    let was = c.up.invariant in
    let rebalanced = rw c.in-Some-2.is at c.in_ok-left.ensures.rebalanced in
    let goes = c.in_ok-left.ensures.reads in
    let steps : length c.up.steps.items ≡ length c.pop.new.self.items + 1 = ap length c.in-Some-pop.ensures.items ∙ length-append c.pop.new.self.items (c.in-Some-pop.parent ∷ []) in
    record {
      climbs = goes_up _ _ _ _ _ _ _ _ _ _ _ _ _ _ _ _ _ (g.met.S.Space.sound c.args.space.now) (omega (arith, was.next, c.requires.room)) c.in-Some-pop.ensures.items was.climbs rebalanced.1 rebalanced.2 goes;
      form = completes_up _ _ _ _ _ _ _ _ _ _ _ _ _ c.in-Some-pop.ensures.items rebalanced.1 was.form _ rebalanced.2;
      near = climb_near (g.S.Space.seen c.args.space.now) (g.S.Space.seen c.up.space) (g.S.Space.seen c.rebalance.new.space) c.args.root.0 c.args.key.now (option_copied c.args.value) (g.met.S.Space.sound c.args.space.now) _ _ _ _ _ _ _ _ _ _ c.in-Some-pop.ensures.items was.climbs c.in_ok-left.ensures.reads was.near rebalanced.2;
      few = omega (arith, was.few, c.in_ok-left.ensures.few, steps);
      first = rw c.in-Some-2.is at c.in_ok-left.ensures.last;
      next = omega (arith, was.next, c.in_ok-left.ensures.next, steps);
      call = call_then g.S.Space g.met.S.Space.frame was.call c.in_ok-left.ensures.call;
    }

pub up-preserved-in-Some-2-2 : goal.up-preserved-in-Some-2-2
up-preserved-in-Some-2-2 g c =
    let was = c.up.invariant in
    let rebalanced = rw c.in-Some-2.is at c.in_ok-left.ensures.rebalanced in
    let goes = c.in_ok-left.ensures.reads in
    let steps : length c.up.steps.items ≡ length c.pop.new.self.items + 1 = ap length c.in-Some-pop.ensures.items ∙ length-append c.pop.new.self.items (c.in-Some-pop.parent ∷ []) in
    record {
      climbs = goes_up _ _ _ _ _ _ _ _ _ _ _ _ _ _ _ _ _ (g.met.S.Space.sound c.args.space.now) (omega (arith, was.next, c.requires.room)) c.in-Some-pop.ensures.items was.climbs rebalanced.1 rebalanced.2 goes;
      form = completes_up _ _ _ _ _ _ _ _ _ _ _ _ _ c.in-Some-pop.ensures.items rebalanced.1 was.form _ rebalanced.2;
      near = climb_near (g.S.Space.seen c.args.space.now) (g.S.Space.seen c.up.space) (g.S.Space.seen c.rebalance.new.space) c.args.root.0 c.args.key.now (option_copied c.args.value) (g.met.S.Space.sound c.args.space.now) _ _ _ _ _ _ _ _ _ _ c.in-Some-pop.ensures.items was.climbs c.in_ok-left.ensures.reads was.near rebalanced.2;
      few = omega (arith, was.few, c.in_ok-left.ensures.few, steps);
      first = rw c.in-Some-2.is at c.in_ok-left.ensures.last;
      next = omega (arith, was.next, c.in_ok-left.ensures.next, steps);
      call = call_then g.S.Space g.met.S.Space.frame was.call c.in_ok-left.ensures.call;
    }

pub returns-in_default-2-clause-planned : goal.returns-in_default-2-clause-planned
returns-in_default-2-clause-planned g c =
    let was = c.up.invariant in
    let rebalanced = rw c.in_default-2.is at c.in_ok-left.ensures.rebalanced in
    ends _ _ _ _ _ _ _ _ _ _ _ _ _ _ _ _ (g.met.S.Space.sound c.args.space.now) (omega (arith, was.next, c.requires.room)) c.in-Some-pop.ensures.items was.climbs rebalanced.1 rebalanced.2 c.in_ok-left.ensures.reads

pub returns-in_default-2-clause-reads : goal.returns-in_default-2-clause-reads
returns-in_default-2-clause-reads g c = Does-then [] [] c.up.invariant.climbs.reads c.in_ok-left.ensures.reads

pub returns-in_default-2-clause-form : goal.returns-in_default-2-clause-form
returns-in_default-2-clause-form g c =
    let rebalanced = rw c.in_default-2.is at c.in_ok-left.ensures.rebalanced in
    completes_here _ _ _ _ _ _ _ _ _ _ _ _ _ c.in-Some-pop.ensures.items rebalanced.1 c.up.invariant.form _ rebalanced.2 rebalanced.3

pub returns-in_default-2-clause-own : goal.returns-in_default-2-clause-own
returns-in_default-2-clause-own g c =
    let was = c.up.invariant in
    let rebalanced = rw c.in_default-2.is at c.in_ok-left.ensures.rebalanced in
    ends_own _ _ _ _ _ _ _ _ _ _ _ _ _ _ _ _ (g.met.S.Space.sound c.args.space.now) c.in-Some-pop.ensures.items was.climbs rebalanced.1 rebalanced.2 c.in_ok-left.ensures.reads

pub returns-in_err-left-clause-fault : goal.returns-in_err-left-clause-fault
returns-in_err-left-clause-fault g c =
    let p = err_from_is_err_and c.from_residual-in_err-left.result c.from_residual-in_err-left.ensures.1 in
    let was = c.up.invariant in
    rw (p.1, p.2) (rebalance_fault _ _ _ _ _ _ _ _ _ _ _ _ _ _ (g.met.S.Space.sound c.args.space.now) c.in-Some-pop.ensures.items was.climbs c.in_err-left.field-0.0 c.in_err-left.ensures.fault)

pub returns-in_err-left-clause-unchanged : goal.returns-in_err-left-clause-unchanged
returns-in_err-left-clause-unchanged g c =
    let p = err_from_is_err_and c.from_residual-in_err-left.result c.from_residual-in_err-left.ensures.1 in
    rw (p.1, p.2) (unchanged_since c.up.invariant.climbs.reads _ c.in_err-left.field-0.0 c.in_err-left.ensures.unchanged)

pub rebalance_root-requires-clause-known : goal.rebalance_root-requires-clause-known
rebalance_root-requires-clause-known g c = (comes_to_root _ _ _ _ _ _ _ _ _ _ _ (nothing_left c.up.steps.items c.in_default.ensures.variant.1) c.up.invariant.climbs).known

pub rebalance_root-requires-clause-node : goal.rebalance_root-requires-clause-node
rebalance_root-requires-clause-node g c = (comes_to_root _ _ _ _ _ _ _ _ _ _ _ (nothing_left c.up.steps.items c.in_default.ensures.variant.1) c.up.invariant.climbs).node

pub rebalance_root-requires-clause-near : goal.rebalance_root-requires-clause-near
rebalance_root-requires-clause-near g c = (comes_to_root _ _ _ _ _ _ _ _ _ _ _ (nothing_left c.up.steps.items c.in_default.ensures.variant.1) c.up.invariant.climbs).near

pub returns-in_err-rebalance_root-clause-fault : goal.returns-in_err-rebalance_root-clause-fault
returns-in_err-rebalance_root-clause-fault g c =
    let p = err_from_is_err_and c.from_residual-in_err-rebalance_root.result c.from_residual-in_err-rebalance_root.ensures.1 in
    let was = c.up.invariant in
    rw (p.1, p.2) (root_fault (g.S.Space.seen c.args.space.now) (g.S.Space.seen c.up.space) (g.S.Space.seen c.rebalance_root.new.space) _ was.climbs.reads c.in_err-rebalance_root.field-0.0 c.in_err-rebalance_root.ensures.fault)

pub returns-in_err-rebalance_root-clause-unchanged : goal.returns-in_err-rebalance_root-clause-unchanged
returns-in_err-rebalance_root-clause-unchanged g c =
    let p = err_from_is_err_and c.from_residual-in_err-rebalance_root.result c.from_residual-in_err-rebalance_root.ensures.1 in
    rw (p.1, p.2) (unchanged_since c.up.invariant.climbs.reads _ c.in_err-rebalance_root.field-0.0 c.in_err-rebalance_root.ensures.unchanged)

pub returns-clause-planned : goal.returns-clause-planned
returns-clause-planned g c =
    let was = c.up.invariant in
    let rebalanced = c.in_ok-rebalance_root.ensures.rebalanced in
    roots _ _ _ _ _ _ _ _ _ _ _ _ _ _ (omega (arith, was.next, c.requires.room)) (nothing_left c.up.steps.items c.in_default.ensures.variant.1) was.climbs rebalanced.1 rebalanced.2 c.in_ok-rebalance_root.ensures.reads

pub returns-clause-form : goal.returns-clause-form
returns-clause-form g c =
    let was = c.up.invariant in
    let rebalanced = c.in_ok-rebalance_root.ensures.rebalanced in
    let none = nothing_left c.up.steps.items c.in_default.ensures.variant.1 in
    completes_root _ _ _ _ _ _ _ _ _ _ _ _ _ none (root_reached _ _ _ _ _ _ _ _ _ _ _ none was.climbs) rebalanced.1 was.form c.in_ok-rebalance_root.ensures.unread rebalanced.2 rebalanced.3

pub returns-clause-own : goal.returns-clause-own
returns-clause-own g c =
    let was = c.up.invariant in
    let rebalanced = c.in_ok-rebalance_root.ensures.rebalanced in
    roots_own _ _ _ _ _ _ _ _ _ _ _ _ _ _ (g.met.S.Space.sound c.args.space.now) (nothing_left c.up.steps.items c.in_default.ensures.variant.1) was.climbs rebalanced.1 rebalanced.2 c.in_ok-rebalance_root.ensures.reads

pub returns-clause-reads : goal.returns-clause-reads
returns-clause-reads g c = Does-then [] [] c.up.invariant.climbs.reads c.in_ok-rebalance_root.ensures.reads

pub returns-in_default-2-clause-near : goal.returns-in_default-2-clause-near
returns-in_default-2-clause-near g c =
    let was = c.up.invariant in
    let rebalanced = rw c.in_default-2.is at c.in_ok-left.ensures.rebalanced in
    climb_near (g.S.Space.seen c.args.space.now) (g.S.Space.seen c.up.space) (g.S.Space.seen c.rebalance.new.space) c.args.root.0 c.args.key.now (option_copied c.args.value) (g.met.S.Space.sound c.args.space.now) _ _ _ _ _ _ _ _ _ _ c.in-Some-pop.ensures.items was.climbs c.in_ok-left.ensures.reads was.near rebalanced.2

pub returns-clause-near : goal.returns-clause-near
returns-clause-near g c =
    nothing_near c.args.root.0 c.args.key.now (g.S.Space.seen c.args.space.now) (g.S.Space.seen c.up.space) (g.S.Space.seen c.rebalance_root.new.space) c.in_ok-rebalance_root.ensures.reads c.up.invariant.near c.in_ok-rebalance_root.ensures.unread

pub rebalance_root-requires-clause-alone : goal.rebalance_root-requires-clause-alone
rebalance_root-requires-clause-alone g c = (comes_to_root _ _ _ _ _ _ _ _ _ _ _ (nothing_left c.up.steps.items c.in_default.ensures.variant.1) c.up.invariant.climbs).alone

pub returns-in_err-left-clause-call : goal.returns-in_err-left-clause-call
returns-in_err-left-clause-call g c =
    let p = err_from_is_err_and c.from_residual-in_err-left.result c.from_residual-in_err-left.ensures.1 in
    rw (p.1, p.2) (call_then g.S.Space g.met.S.Space.frame c.up.invariant.call c.in_err-left.ensures.call)

pub returns-in_default-2-clause-call : goal.returns-in_default-2-clause-call
returns-in_default-2-clause-call g c = call_then g.S.Space g.met.S.Space.frame c.up.invariant.call c.in_ok-left.ensures.call

pub returns-in_err-rebalance_root-clause-call : goal.returns-in_err-rebalance_root-clause-call
returns-in_err-rebalance_root-clause-call g c =
    let p = err_from_is_err_and c.from_residual-in_err-rebalance_root.result c.from_residual-in_err-rebalance_root.ensures.1 in
    rw (p.1, p.2) (call_then g.S.Space g.met.S.Space.frame c.up.invariant.call c.in_err-rebalance_root.ensures.call)

pub returns-clause-call : goal.returns-clause-call
returns-clause-call g c = call_then g.S.Space g.met.S.Space.frame c.up.invariant.call c.in_ok-rebalance_root.ensures.call
