use Rattle.std.proofs.Common.{arith}
use Rattle.std.specs.Option.{option_copied}
use Rattle.sea_base.proofs.Calling.{call_then}
use Rattle.std.proofs.lemmas.Result.{err_from_is_err_and}
use Rattle.sea_base.specs.Space.{Seen}
use Rattle.sea_tree.proofs.Kept.{kept_plans, plan_few, can_splice, leads_somewhere}
use Rattle.sea_tree.proofs.Performing.{unchanged_since}
use Rattle.sea_tree.proofs.Doing.{Does-read}
use Rattle.sea_tree.proofs.Puts.{fault_since}
use Rattle.sea_tree.proofs.changing.planned.Goals as goal

pub returns-in-Some-clause-plans : goal.returns-in-Some-clause-plans
returns-in-Some-clause-plans g c =
    let seen : Seen = g.S.Space.seen c.args.space.now in
    kept_plans seen c.args.root.0 c.args.key.now (option_copied c.args.value) c.args.leaf.now c.in-Some.plan (g.met.S.Space.sound c.args.space.now) c.bytes.ensures.name c.requires.value (omega (arith, c.requires.room)) c.requires.leaf (rw c.in-Some.is at c.in_ok-plan.ensures)

pub returns-in-Some-clause-few : goal.returns-in-Some-clause-few
returns-in-Some-clause-few g c =
    let seen : Seen = g.S.Space.seen c.args.space.now in
    let one = plan_few seen c.args.root.0 c.args.key.now (option_copied c.args.value) c.args.leaf.now c.in-Some.plan (g.met.S.Space.sound c.args.space.now) c.bytes.ensures.name c.requires.value (omega (arith, c.requires.room)) c.requires.leaf (rw c.in-Some.is at c.in_ok-plan.ensures) in
    omega (arith, one)

pub returns-in-Some-clause-spliced : goal.returns-in-Some-clause-spliced
returns-in-Some-clause-spliced g c =
    let seen : Seen = g.S.Space.seen c.args.space.now in
    can_splice seen c.args.root.0 c.args.key.now (option_copied c.args.value) c.args.leaf.now c.in-Some.plan (g.met.S.Space.sound c.args.space.now) c.bytes.ensures.name c.requires.value (omega (arith, c.requires.room)) c.requires.leaf (rw c.in-Some.is at c.in_ok-plan.ensures)

pub unreachable-requires : goal.unreachable-requires
unreachable-requires g c =
    leads_somewhere (g.S.Space.seen c.args.space.now) (g.S.Space.seen c.path_to.new.space) c.args.root.0 c.args.key.now c.args.leaf.now c.in_ok-path.ensures.reads c.requires.leaf (rw c.in_default-2.is at c.in_ok-path.ensures.none)

pub returns-in_err-plan-2-clause-fault : goal.returns-in_err-plan-2-clause-fault
returns-in_err-plan-2-clause-fault g c =
    let p = err_from_is_err_and c.from_residual-in_err-plan-2.result c.from_residual-in_err-plan-2.ensures.1 in
    rw (p.1, p.2) (fault_since c.args.root.0 c.args.key.now (g.S.Space.seen c.args.space.now) (g.S.Space.seen c.path_to.new.space) (g.S.Space.seen c.mended.new.space)
    c.in_ok-path.ensures.reads c.in_ok-path.ensures.whole c.in_err-plan-2.field-0.0 c.in_err-plan-2.ensures.unchanged c.in_err-plan-2.ensures.fault)

pub returns-in_err-plan-2-clause-unchanged : goal.returns-in_err-plan-2-clause-unchanged
returns-in_err-plan-2-clause-unchanged g c =
    let p = err_from_is_err_and c.from_residual-in_err-plan-2.result c.from_residual-in_err-plan-2.ensures.1 in
    rw (p.1, p.2) (unchanged_since (Does-read c.in_ok-path.ensures.reads) _ c.in_err-plan-2.field-0.0 c.in_err-plan-2.ensures.unchanged)

pub returns-in_err-plan-2-clause-call : goal.returns-in_err-plan-2-clause-call
returns-in_err-plan-2-clause-call g c =
    let p = err_from_is_err_and c.from_residual-in_err-plan-2.result c.from_residual-in_err-plan-2.ensures.1 in
    rw (p.1, p.2) (call_then g.S.Space g.met.S.Space.frame c.in_ok-path.ensures.call c.in_err-plan-2.ensures.call)

pub returns-clause-call : goal.returns-clause-call
returns-clause-call g c = call_then g.S.Space g.met.S.Space.frame c.in_ok-path.ensures.call c.in_ok-plan-2.ensures.call
