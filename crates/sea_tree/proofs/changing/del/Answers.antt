use Rattle.std.proofs.Common.{◌≡◌, Option, Some, None, MatchOption, true, false, not, refl, sym, ap, ◌∙◌}
use Rattle.std.specs.Prelude.{is_some}
use Rattle.sea_base.proofs.Calling.{call_then}
use Rattle.std.proofs.lemmas.Result.{err_from_is_err_and}
use Rattle.sea_base.specs.Space.{Seen, OnlyRead}
use Rattle.sea_tree.proofs.Leaves.{known_empty}
use Rattle.sea_tree.proofs.Lookups.{leaf_value}
use Rattle.sea_tree.proofs.Puts.{nothing_changes, read_footprint, path_fails, planned_fails, plan_agrees, plan_form, plan_footprint, plan_becomes}
use Rattle.sea_tree.proofs.changing.del.Goals as goal

none_of : {A : Type 0} (o : Option A) → is_some o ≡ false → o ≡ None
none_of None h = refl
none_of (Some x) h = absurd (cc)

some_found : {A Q : Type 0} (P : Type 0) (o : Option A) → is_some o ≡ true → Q → MatchOption o P (λ x. Q)
some_found P None h q = absurd (cc)
some_found P (Some x) h q = q

pub returns-in_err-leaf-clause-failure : goal.returns-in_err-leaf-clause-failure
returns-in_err-leaf-clause-failure g c =
    let p = err_from_is_err_and c.from_residual.result c.from_residual.ensures.1 in
    rw (p.1, p.2) (path_fails c.args.root.0 c.args.key.now (g.S.Space.seen c.args.space.now) (g.S.Space.seen c.look_up.new.space) c.in_err-leaf.ensures.reads c.in_err-leaf.field-0.0 c.in_err-leaf.ensures.fault)

pub returns-in_err-plan-clause-failure : goal.returns-in_err-plan-clause-failure
returns-in_err-plan-clause-failure g c =
    let p = err_from_is_err_and c.from_residual-in_err-plan.result c.from_residual-in_err-plan.ensures.1 in
    rw (p.1, p.2) (planned_fails c.args.root.0 c.args.key.now (g.S.Space.seen c.args.space.now) (g.S.Space.seen c.look_up.new.space) (g.S.Space.seen c.planned.new.space)
    c.in_ok-leaf.ensures.reads c.in_err-plan.field-0.0 c.in_err-plan.ensures.unchanged c.in_err-plan.ensures.fault)

pub returns-in_default-clause-footprint : goal.returns-in_default-clause-footprint
returns-in_default-clause-footprint g c = read_footprint c.args.root.0 c.args.key.now (g.S.Space.seen c.args.space.now) (g.S.Space.seen c.look_up.new.space) c.in_ok-leaf.ensures.reads c.in_ok-leaf.ensures.whole c.in_ok-leaf.ensures.within

pub returns-then-is_none-clause-footprint : goal.returns-then-is_none-clause-footprint
returns-then-is_none-clause-footprint g c = read_footprint c.args.root.0 c.args.key.now (g.S.Space.seen c.args.space.now) (g.S.Space.seen c.look_up.new.space) c.in_ok-leaf.ensures.reads c.in_ok-leaf.ensures.whole c.in_ok-leaf.ensures.within

pub returns-clause-footprint : goal.returns-clause-footprint
returns-clause-footprint g c =
    plan_footprint (g.S.Space.seen c.args.space.now) (g.S.Space.seen c.look_up.new.space) (g.S.Space.seen c.planned.new.space) (g.S.Space.seen c.perform.new.space) c.args.root.0 c.args.key.now None c.in_ok-plan.plan
    c.in_ok-leaf.ensures.reads c.in_ok-leaf.ensures.within c.in_ok-plan.ensures.plans c.in_ok-perform.ensures.done c.in_ok-perform.ensures.next
    c.in_ok-leaf.ensures.whole c.in_ok-plan.ensures.few c.in_ok-perform.ensures.few c.in_ok-perform.ensures.once c.in_ok-perform.ensures.unread

pub returns-clause-form : goal.returns-clause-form
returns-clause-form g c =
    some_found (OnlyRead (g.S.Space.seen c.args.space.now) (g.S.Space.seen c.perform.new.space)) _ (c.is_none.ensures ∙ ap not c.if-is_none.false) (plan_form (g.S.Space.seen c.args.space.now) (g.S.Space.seen c.look_up.new.space) (g.S.Space.seen c.planned.new.space) (g.S.Space.seen c.perform.new.space) c.args.root.0 c.args.key.now None c.in_ok-plan.plan
    c.in_ok-leaf.ensures.reads c.in_ok-leaf.ensures.within c.in_ok-plan.ensures.plans c.in_ok-perform.ensures.done c.in_ok-perform.ensures.next
    c.in_ok-perform.ensures.written c.in_ok-perform.ensures.unread)

pub returns-in_default-clause-changed : goal.returns-in_default-clause-changed
returns-in_default-clause-changed g c store content meets =
    let old : Seen = g.S.Space.seen c.args.space.now in
    let mid : Seen = g.S.Space.seen c.look_up.new.space in
    let none = rw c.in_default.is at c.in_ok-leaf.ensures.none in
    let absent = known_empty old mid c.args.root.0 c.in_ok-leaf.ensures.reads (g.met.S.Space.sound c.look_up.new.space) store content meets.agrees meets.content c.in_ok-leaf.ensures.known none c.args.key.now in
    (sym absent, nothing_changes c.args.root.0 c.args.key.now old mid c.in_ok-leaf.ensures.reads store content meets absent)

pub returns-then-is_none-clause-changed : goal.returns-then-is_none-clause-changed
returns-then-is_none-clause-changed g c store content meets =
    let old : Seen = g.S.Space.seen c.args.space.now in
    let mid : Seen = g.S.Space.seen c.look_up.new.space in
    let held = rw c.in-Some.is at c.in_ok-leaf.ensures.leaf in
    let here = leaf_value old mid c.args.root.0 c.args.key.now _ c.in_ok-leaf.ensures.reads (g.met.S.Space.sound c.look_up.new.space) held store content meets.agrees meets.content in
    let absent = sym here ∙ none_of _ (c.is_none.ensures ∙ ap not c.if-is_none.true) in
    (sym absent, nothing_changes c.args.root.0 c.args.key.now old mid c.in_ok-leaf.ensures.reads store content meets absent)

pub returns-clause-changed : goal.returns-clause-changed
returns-clause-changed g c store content meets =
    let old : Seen = g.S.Space.seen c.args.space.now in
    let mid : Seen = g.S.Space.seen c.look_up.new.space in
    let held = rw c.in-Some.is at c.in_ok-leaf.ensures.leaf in
    let agrees =
    plan_agrees (g.S.Space.seen c.args.space.now) (g.S.Space.seen c.look_up.new.space) (g.S.Space.seen c.planned.new.space) (g.S.Space.seen c.perform.new.space) c.args.root.0 c.args.key.now None c.in_ok-plan.plan
    c.in_ok-leaf.ensures.reads c.in_ok-leaf.ensures.within c.in_ok-plan.ensures.plans c.in_ok-perform.ensures.done c.in_ok-perform.ensures.next
    store meets.agrees in (
      leaf_value old mid c.args.root.0 c.args.key.now _ c.in_ok-leaf.ensures.reads (g.met.S.Space.sound c.look_up.new.space) held store content agrees meets.content,
      plan_becomes (g.S.Space.seen c.args.space.now) (g.S.Space.seen c.look_up.new.space) (g.S.Space.seen c.planned.new.space) (g.S.Space.seen c.perform.new.space) c.args.root.0 c.args.key.now None c.in_ok-plan.plan
          c.in_ok-leaf.ensures.reads c.in_ok-leaf.ensures.within c.in_ok-plan.ensures.plans c.in_ok-perform.ensures.done c.in_ok-perform.ensures.next store content meets,
    )

pub returns-in_err-plan-clause-call : goal.returns-in_err-plan-clause-call
returns-in_err-plan-clause-call g c =
    let p = err_from_is_err_and c.from_residual-in_err-plan.result c.from_residual-in_err-plan.ensures.1 in
    rw (p.1, p.2) (call_then g.S.Space g.met.S.Space.frame c.in_ok-leaf.ensures.call c.in_err-plan.ensures.call)

pub returns-in_err-perform-clause-call : goal.returns-in_err-perform-clause-call
returns-in_err-perform-clause-call g c =
    let p = err_from_is_err_and c.from_residual-in_err-perform.result c.from_residual-in_err-perform.ensures.1 in
    rw (p.1, p.2) (call_then g.S.Space g.met.S.Space.frame (call_then g.S.Space g.met.S.Space.frame c.in_ok-leaf.ensures.call c.in_ok-plan.ensures.call) c.in_err-perform.ensures.call)

pub returns-clause-call : goal.returns-clause-call
returns-clause-call g c = call_then g.S.Space g.met.S.Space.frame (call_then g.S.Space g.met.S.Space.frame c.in_ok-leaf.ensures.call c.in_ok-plan.ensures.call) c.in_ok-perform.ensures.call
