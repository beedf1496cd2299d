use Rattle.std.proofs.Common.{◌-◌, refl, ap, arith}
use Rattle.std.proofs.lemmas.Result.{err_from_is_err_and}
use Rattle.sea_base.proofs.Calling.{call_then}
use Rattle.sea_object.specs.declared.op.Op.TheVariants.{Remove}
use Rattle.sea_object.specs.Answer as model
use Rattle.sea_ops.proofs.Asked.{find_fails}
use Rattle.sea_ops.proofs.Emptied.{failed_drop}
use Rattle.sea_ops.proofs.Keys.{omap_root_is}
use Rattle.sea_ops.proofs.Parts.{Attributes}
use Rattle.sea_ops.proofs.Removes.{second_fails, erase_fails, removes}
use Rattle.sea_ops.proofs.Turns.{no_object}
use Rattle.sea_ops.proofs.TurnFails.{turn_fails}
use Rattle.sea_ops.proofs.removing.remove.Goals as goal

pub returns-in_err-onode-clause-failure : goal.returns-in_err-onode-clause-failure
returns-in_err-onode-clause-failure g c =
    let p = err_from_is_err_and c.from_residual.result c.from_residual.ensures.1 in
    rw (p.1, p.2) (λ store next objects m few. find_fails c.args.name.now (g.S.Space.seen c.args.space.now) (g.S.Space.seen c.find.new.space) c.in_err-onode.field-0.0 c.in_err-onode.ensures.reads c.in_err-onode.ensures.fault store next objects m)

pub returns-in_default-clause-ends : goal.returns-in_default-clause-ends
returns-in_default-clause-ends g c =
    let op = Remove c.args.name.now in
    no_object (g.S.Space.seen c.args.space.now) (g.S.Space.seen c.find.new.space) c.in_ok-onode.ensures.reads op c.args.name.now (rw c.in_default.is at c.in_ok-onode.ensures.found)
    (λ objects none. ap (model.refusal_at op) none)

pub returns-in_err-drop_all-clause-failure : goal.returns-in_err-drop_all-clause-failure
returns-in_err-drop_all-clause-failure g c =
    let p = err_from_is_err_and c.from_residual-in_err-drop_all.result c.from_residual-in_err-drop_all.ensures.1 in
    let f = c.in_err-drop_all.ensures in
    let a = g.S.Space.seen c.find.new.space in
    let b = g.S.Space.seen c.drop_all.new.space in
    let x = c.in-Some.onode in
    rw (p.1, p.2) (turn_fails Attributes (g.S.Space.seen c.args.space.now) a b c.in_ok-onode.ensures.reads c.args.name.now x (rw c.in-Some.is at c.in_ok-onode.ensures.found) c.in_err-drop_all.field-0.0 (omega (arith, f.next)) (failed_drop Attributes x x.base.0 a b c.in_err-drop_all.field-0.0 (λ small. refl) f.failure))

pub returns-in_err-drop_all-clause-call : goal.returns-in_err-drop_all-clause-call
returns-in_err-drop_all-clause-call g c =
    let p = err_from_is_err_and c.from_residual-in_err-drop_all.result c.from_residual-in_err-drop_all.ensures.1 in
    rw (p.1, p.2) (call_then g.S.Space g.met.S.Space.frame c.in_ok-onode.ensures.call c.in_err-drop_all.ensures.call)

pub returns-in_err-drop_all-2-clause-failure : goal.returns-in_err-drop_all-2-clause-failure
returns-in_err-drop_all-2-clause-failure g c =
    let p = err_from_is_err_and c.from_residual-in_err-drop_all-2.result c.from_residual-in_err-drop_all-2.ensures.1 in
    let one = c.in_ok-drop_all.ensures in
    let x = c.in-Some.onode in
    let root = c.omap_root.result.0 in
    rw (p.1, p.2) (second_fails (g.S.Space.seen c.args.space.now) (g.S.Space.seen c.find.new.space) (g.S.Space.seen c.drop_all.new.space) c.in_ok-onode.ensures.reads c.args.name.now x (rw c.in-Some.is at c.in_ok-onode.ensures.found)
    (record { leaves = one.gone; footprint = one.footprint; notes = one.notes; next = one.next })
    (g.S.Space.seen c.drop_all-2.new.space) root c.in_err-drop_all-2.field-0.0 (omap_root_is x root c.omap_root.ensures) c.in_err-drop_all-2.ensures.failure)

pub returns-in_err-drop_all-2-clause-call : goal.returns-in_err-drop_all-2-clause-call
returns-in_err-drop_all-2-clause-call g c =
    let p = err_from_is_err_and c.from_residual-in_err-drop_all-2.result c.from_residual-in_err-drop_all-2.ensures.1 in
    rw (p.1, p.2) (call_then g.S.Space g.met.S.Space.frame (call_then g.S.Space g.met.S.Space.frame c.in_ok-onode.ensures.call c.in_ok-drop_all.ensures.call) c.in_err-drop_all-2.ensures.call)

pub returns-in_err-cut-clause-call : goal.returns-in_err-cut-clause-call
returns-in_err-cut-clause-call g c =
    let p = err_from_is_err_and c.from_residual-in_err-cut.result c.from_residual-in_err-cut.ensures.1 in
    rw (p.1, p.2) (call_then g.S.Space g.met.S.Space.frame (call_then g.S.Space g.met.S.Space.frame (call_then g.S.Space g.met.S.Space.frame c.in_ok-onode.ensures.call c.in_ok-drop_all.ensures.call) c.in_ok-drop_all-2.ensures.call) c.in_err-cut.ensures.call)

pub returns-in_err-erase-clause-failure : goal.returns-in_err-erase-clause-failure
returns-in_err-erase-clause-failure g c =
    let p = err_from_is_err_and c.from_residual-in_err-erase.result c.from_residual-in_err-erase.ensures.1 in
    let one = c.in_ok-drop_all.ensures in
    let two = c.in_ok-drop_all-2.ensures in
    let cuts = c.in_ok-cut.ensures in
    let x = c.in-Some.onode in
    let root = c.omap_root.result.0 in
    rw (p.1, p.2) (erase_fails (g.S.Space.seen c.args.space.now) (g.S.Space.seen c.find.new.space) (g.S.Space.seen c.drop_all.new.space) c.in_ok-onode.ensures.reads c.args.name.now x (rw c.in-Some.is at c.in_ok-onode.ensures.found)
    (record { leaves = one.gone; footprint = one.footprint; notes = one.notes; next = one.next })
    (g.S.Space.seen c.drop_all-2.new.space) (g.S.Space.seen c.cut.new.space) root (omap_root_is x root c.omap_root.ensures)
    (record { leaves = two.gone; footprint = two.footprint; notes = two.notes; next = two.next })
    cuts.footprint cuts.next (g.S.Space.seen c.erase.new.space) c.in_err-erase.field-0.0 c.in_err-erase.ensures.failure)

pub returns-in_err-erase-clause-call : goal.returns-in_err-erase-clause-call
returns-in_err-erase-clause-call g c =
    let p = err_from_is_err_and c.from_residual-in_err-erase.result c.from_residual-in_err-erase.ensures.1 in
    rw (p.1, p.2) (call_then g.S.Space g.met.S.Space.frame (call_then g.S.Space g.met.S.Space.frame (call_then g.S.Space g.met.S.Space.frame (call_then g.S.Space g.met.S.Space.frame c.in_ok-onode.ensures.call c.in_ok-drop_all.ensures.call) c.in_ok-drop_all-2.ensures.call) c.in_ok-cut.ensures.call) c.in_err-erase.ensures.call)

pub returns-clause-ends : goal.returns-clause-ends
returns-clause-ends g c =
    let one = c.in_ok-drop_all.ensures in
    let two = c.in_ok-drop_all-2.ensures in
    let cuts = c.in_ok-cut.ensures in
    let did = c.in_ok-erase.ensures in
    let x = c.in-Some.onode in
    let root = c.omap_root.result.0 in
    removes (g.S.Space.seen c.args.space.now) (g.S.Space.seen c.find.new.space) (g.S.Space.seen c.drop_all.new.space) c.in_ok-onode.ensures.reads c.args.name.now x (rw c.in-Some.is at c.in_ok-onode.ensures.found)
    (record { leaves = one.gone; footprint = one.footprint; notes = one.notes; next = one.next })
    (g.S.Space.seen c.drop_all-2.new.space) (g.S.Space.seen c.cut.new.space) root (omap_root_is x root c.omap_root.ensures)
    (record { leaves = two.gone; footprint = two.footprint; notes = two.notes; next = two.next })
    cuts.footprint cuts.next (g.S.Space.seen c.erase.new.space) did.changed did.footprint.own did.notes did.next.0

pub returns-clause-call : goal.returns-clause-call
returns-clause-call g c =
    call_then g.S.Space g.met.S.Space.frame (call_then g.S.Space g.met.S.Space.frame (call_then g.S.Space g.met.S.Space.frame (call_then g.S.Space g.met.S.Space.frame c.in_ok-onode.ensures.call c.in_ok-drop_all.ensures.call) c.in_ok-drop_all-2.ensures.call) c.in_ok-cut.ensures.call) c.in_ok-erase.ensures.call
