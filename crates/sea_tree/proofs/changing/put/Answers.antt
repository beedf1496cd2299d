use Rattle.std.proofs.Common.{◌≡◌, List, Some, inl, inr, sym, subst, ◌∙◌, arith}
use Rattle.sea_base.proofs.Calling.{call_then}
use Rattle.std.proofs.lemmas.Result.{err_from_is_err_and}
use Rattle.sea_base.specs.Space.{Seen}
use Rattle.sea_base.proofs.Spaces.{only_read-refl}
use Rattle.sea_tree.specs.Does.{Change, Does}
use Rattle.sea_tree.specs.Plan.{plan_changes}
use Rattle.sea_tree.proofs.Doing.{Does-read}
use Rattle.sea_tree.proofs.Leaves.{known_empty}
use Rattle.sea_tree.proofs.Performing.{first_whole}
use Rattle.sea_tree.proofs.Nears.{none_near}
use Rattle.sea_tree.proofs.Lookups.{leaf_value}
use Rattle.sea_tree.proofs.Puts.{Run, run_becomes, plants, plants_own, run_agrees, run_footprint, path_fails, planned_fails, plan_agrees, plan_form, plan_footprint, plan_becomes}
use Rattle.sea_tree.proofs.changing.put.Goals as goal

pub returns-in_err-leaf-clause-failure : goal.returns-in_err-leaf-clause-failure
returns-in_err-leaf-clause-failure g c =
    let p = err_from_is_err_and c.from_residual.result c.from_residual.ensures.1 in
    rw (p.1, p.2) (path_fails c.args.root.0 c.args.key.now (g.S.Space.seen c.args.space.now) (g.S.Space.seen c.look_up.new.space) c.in_err-leaf.ensures.reads c.in_err-leaf.field-0.0 c.in_err-leaf.ensures.fault)

pub returns-in_err-plan-2-clause-failure : goal.returns-in_err-plan-2-clause-failure
returns-in_err-plan-2-clause-failure g c =
    let p = err_from_is_err_and c.from_residual-in_err-plan-2.result c.from_residual-in_err-plan-2.ensures.1 in
    rw (p.1, p.2) (planned_fails c.args.root.0 c.args.key.now (g.S.Space.seen c.args.space.now) (g.S.Space.seen c.look_up.new.space) (g.S.Space.seen c.planned.new.space)
    c.in_ok-leaf.ensures.reads c.in_err-plan-2.field-0.0 c.in_err-plan-2.ensures.unchanged c.in_err-plan-2.ensures.fault)

pub returns-in_default-clause-footprint : goal.returns-in_default-clause-footprint
returns-in_default-clause-footprint g c =
    let old : Seen = g.S.Space.seen c.args.space.now in
    let mid : Seen = g.S.Space.seen c.look_up.new.space in
    let new : Seen = g.S.Space.seen c.perform.new.space in
    let plan = c.in_ok-plan.plan in
    run_footprint c.args.root.0 c.args.key.now old mid mid new plan
    (record { reads = c.in_ok-leaf.ensures.reads; plans = Does-read (only_read-refl mid); writes = c.in_ok-perform.ensures.done; next = c.in_ok-perform.ensures.next })
    c.in_ok-leaf.ensures.whole c.in_ok-leaf.ensures.within (none_near c.args.root.0 c.args.key.now mid) (plants_own c.args.root.0 mid mid (plan_changes plan) _ c.in_ok-plan.ensures.planned)
    (omega (arith, c.in_ok-plan.ensures.few)) c.in_ok-perform.ensures.few c.in_ok-perform.ensures.once c.in_ok-perform.ensures.unread

pub returns-clause-footprint : goal.returns-clause-footprint
returns-clause-footprint g c =
    plan_footprint (g.S.Space.seen c.args.space.now) (g.S.Space.seen c.look_up.new.space) (g.S.Space.seen c.planned.new.space) (g.S.Space.seen c.perform-2.new.space) c.args.root.0 c.args.key.now (Some c.args.value.now) c.in_ok-plan-2.plan
    c.in_ok-leaf.ensures.reads c.in_ok-leaf.ensures.within c.in_ok-plan-2.ensures.plans c.in_ok-perform-2.ensures.done c.in_ok-perform-2.ensures.next
    c.in_ok-leaf.ensures.whole c.in_ok-plan-2.ensures.few c.in_ok-perform-2.ensures.few c.in_ok-perform-2.ensures.once c.in_ok-perform-2.ensures.unread

pub returns-clause-form : goal.returns-clause-form
returns-clause-form g c =
    inl (plan_form (g.S.Space.seen c.args.space.now) (g.S.Space.seen c.look_up.new.space) (g.S.Space.seen c.planned.new.space) (g.S.Space.seen c.perform-2.new.space) c.args.root.0 c.args.key.now (Some c.args.value.now) c.in_ok-plan-2.plan
    c.in_ok-leaf.ensures.reads c.in_ok-leaf.ensures.within c.in_ok-plan-2.ensures.plans c.in_ok-perform-2.ensures.done c.in_ok-perform-2.ensures.next
    c.in_ok-perform-2.ensures.written c.in_ok-perform-2.ensures.unread)

pub returns-in_default-clause-form : goal.returns-in_default-clause-form
returns-in_default-clause-form g c =
    let mid : Seen = g.S.Space.seen c.look_up.new.space in
    let new : Seen = g.S.Space.seen c.perform.new.space in
    inr (record {
      read = mid;
      reads = c.in_ok-leaf.ensures.reads;
      on_path = c.in_ok-leaf.ensures.within;
      known = c.in_ok-leaf.ensures.known;
      empty = rw c.in_default.is at c.in_ok-leaf.ensures.none;
      writes = subst (λ (cs : List Change). Does cs mid new) c.in_ok-plan.ensures.planned c.in_ok-perform.ensures.done;
      whole = first_whole c.args.root.0 mid new c.in_ok-plan.plan _ c.in_ok-plan.ensures.planned c.in_ok-plan.ensures.whole c.in_ok-perform.ensures.written;
      unread = c.in_ok-perform.ensures.unread;
      next = c.in_ok-perform.ensures.next;
    })

pub returns-in_default-clause-changed : goal.returns-in_default-clause-changed
returns-in_default-clause-changed g c store content meets =
    let old : Seen = g.S.Space.seen c.args.space.now in
    let mid : Seen = g.S.Space.seen c.look_up.new.space in
    let planned : Seen = g.S.Space.seen c.look_up.new.space in
    let new : Seen = g.S.Space.seen c.perform.new.space in
    let changes = plan_changes c.in_ok-plan.plan in
    let run : Run old mid planned new changes = record { reads = c.in_ok-leaf.ensures.reads; plans = Does-read (only_read-refl mid); writes = c.in_ok-perform.ensures.done; next = c.in_ok-perform.ensures.next } in
    let sound = g.met.S.Space.sound c.look_up.new.space in
    let none = rw c.in_default.is at c.in_ok-leaf.ensures.none in
    let agrees = run_agrees old mid planned new changes run store meets.agrees in (
      sym (known_empty old mid c.args.root.0 c.in_ok-leaf.ensures.reads sound store content agrees meets.content c.in_ok-leaf.ensures.known none c.args.key.now),
      run_becomes c.args.root.0 c.args.key.now (Some c.args.value.now) old mid planned new changes run
          (plants c.args.root.0 c.args.key.now c.args.value.now mid changes sound c.in_ok-leaf.ensures.known none c.bytes.ensures.name c.requires.value c.in_ok-plan.ensures.planned) store content meets,
    )

pub returns-clause-changed : goal.returns-clause-changed
returns-clause-changed g c store content meets =
    let old : Seen = g.S.Space.seen c.args.space.now in
    let mid : Seen = g.S.Space.seen c.look_up.new.space in
    let held = rw c.in-Some.is at c.in_ok-leaf.ensures.leaf in
    let agrees =
    plan_agrees (g.S.Space.seen c.args.space.now) (g.S.Space.seen c.look_up.new.space) (g.S.Space.seen c.planned.new.space) (g.S.Space.seen c.perform-2.new.space) c.args.root.0 c.args.key.now (Some c.args.value.now) c.in_ok-plan-2.plan
    c.in_ok-leaf.ensures.reads c.in_ok-leaf.ensures.within c.in_ok-plan-2.ensures.plans c.in_ok-perform-2.ensures.done c.in_ok-perform-2.ensures.next
    store meets.agrees in (
      leaf_value old mid c.args.root.0 c.args.key.now _ c.in_ok-leaf.ensures.reads (g.met.S.Space.sound c.look_up.new.space) held store content agrees meets.content,
      plan_becomes (g.S.Space.seen c.args.space.now) (g.S.Space.seen c.look_up.new.space) (g.S.Space.seen c.planned.new.space) (g.S.Space.seen c.perform-2.new.space) c.args.root.0 c.args.key.now (Some c.args.value.now) c.in_ok-plan-2.plan
          c.in_ok-leaf.ensures.reads c.in_ok-leaf.ensures.within c.in_ok-plan-2.ensures.plans c.in_ok-perform-2.ensures.done c.in_ok-perform-2.ensures.next store content meets,
    )

pub returns-in_default-clause-call : goal.returns-in_default-clause-call
returns-in_default-clause-call g c = call_then g.S.Space g.met.S.Space.frame c.in_ok-leaf.ensures.call c.in_ok-perform.ensures.call

pub returns-in_err-plan-2-clause-call : goal.returns-in_err-plan-2-clause-call
returns-in_err-plan-2-clause-call g c =
    let p = err_from_is_err_and c.from_residual-in_err-plan-2.result c.from_residual-in_err-plan-2.ensures.1 in
    rw (p.1, p.2) (call_then g.S.Space g.met.S.Space.frame c.in_ok-leaf.ensures.call c.in_err-plan-2.ensures.call)

pub returns-in_err-perform-2-clause-call : goal.returns-in_err-perform-2-clause-call
returns-in_err-perform-2-clause-call g c =
    let p = err_from_is_err_and c.from_residual-in_err-perform-2.result c.from_residual-in_err-perform-2.ensures.1 in
    rw (p.1, p.2) (call_then g.S.Space g.met.S.Space.frame (call_then g.S.Space g.met.S.Space.frame c.in_ok-leaf.ensures.call c.in_ok-plan-2.ensures.call) c.in_err-perform-2.ensures.call)

pub returns-clause-call : goal.returns-clause-call
returns-clause-call g c = call_then g.S.Space g.met.S.Space.frame (call_then g.S.Space g.met.S.Space.frame c.in_ok-leaf.ensures.call c.in_ok-plan-2.ensures.call) c.in_ok-perform-2.ensures.call

pub returns-in_err-perform-clause-call : goal.returns-in_err-perform-clause-call
returns-in_err-perform-clause-call g c =
    let p = err_from_is_err_and c.from_residual-in_err-perform.result c.from_residual-in_err-perform.ensures.1 in
    rw (p.1, p.2) (call_then g.S.Space g.met.S.Space.frame c.in_ok-leaf.ensures.call c.in_err-perform.ensures.call)
