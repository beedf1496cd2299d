use Rattle.std.proofs.Common.{◌≡◌, ◌+◌, ◌<◌, ◌≤◌, ◌-◌, ◌^◌, ℕ, refl, sym, ap, arith}
use Rattle.std.proofs.lemmas.Result.{err_from_is_err_and}
use Rattle.sea_base.proofs.Calling.{call_then}
use Rattle.sea_object.specs.declared.onode.Onode.{Onode}
use Rattle.sea_object.specs.declared.op.Op.TheVariants.{RmAttrs}
use Rattle.sea_object.specs.declared.reply.Item.TheVariants.{Unit as Nothing}
use Rattle.sea_object.specs.Answer as model
use Rattle.sea_ops.proofs.Asked.{find_fails}
use Rattle.sea_ops.proofs.Emptied.{Any, emptied, none_counted, turns_emptied, failed_drop, clears_attributes}
use Rattle.sea_ops.proofs.Parts.{Attributes}
use Rattle.sea_ops.proofs.Turns.{turns_done, no_object}
use Rattle.sea_ops.proofs.TurnFails.{turn_fails, save_fails}
use Rattle.sea_ops.proofs.clearing.remove_attrs.Goals as goal

pub returns-in_err-onode-clause-failure : goal.returns-in_err-onode-clause-failure
returns-in_err-onode-clause-failure g c =
    let p = err_from_is_err_and c.from_residual.result c.from_residual.ensures.1 in
    rw (p.1, p.2) (λ store next objects m few. find_fails c.args.name.now (g.S.Space.seen c.args.space.now) (g.S.Space.seen c.find.new.space) c.in_err-onode.field-0.0 c.in_err-onode.ensures.reads c.in_err-onode.ensures.fault store next objects m)

pub returns-in_default-clause-ends : goal.returns-in_default-clause-ends
returns-in_default-clause-ends g c =
    no_object (g.S.Space.seen c.args.space.now) (g.S.Space.seen c.find.new.space) c.in_ok-onode.ensures.reads (RmAttrs c.args.name.now) c.args.name.now (rw c.in_default.is at c.in_ok-onode.ensures.found)
    (λ objects none. ap (model.refusal_at (RmAttrs c.args.name.now)) none)

pub returns-in_err-drop_all-clause-failure : goal.returns-in_err-drop_all-clause-failure
returns-in_err-drop_all-clause-failure g c =
    let p = err_from_is_err_and c.from_residual-in_err-drop_all.result c.from_residual-in_err-drop_all.ensures.1 in
    let f = c.in_err-drop_all.ensures in
    let a = g.S.Space.seen c.find.new.space in
    let b = g.S.Space.seen c.drop_all.new.space in
    let x = c.in-Some.onode in
    let root = x.base.0 in
    rw (p.1, p.2) (turn_fails Attributes (g.S.Space.seen c.args.space.now) a b c.in_ok-onode.ensures.reads c.args.name.now x (rw c.in-Some.is at c.in_ok-onode.ensures.found) c.in_err-drop_all.field-0.0 (omega (arith, f.next)) (failed_drop Attributes x root a b c.in_err-drop_all.field-0.0 (λ small. refl) f.failure))

pub returns-in_err-drop_all-clause-call : goal.returns-in_err-drop_all-clause-call
returns-in_err-drop_all-clause-call g c =
    let p = err_from_is_err_and c.from_residual-in_err-drop_all.result c.from_residual-in_err-drop_all.ensures.1 in
    rw (p.1, p.2) (call_then g.S.Space g.met.S.Space.frame c.in_ok-onode.ensures.call c.in_err-drop_all.ensures.call)

pub returns-in_err-save-clause-failure : goal.returns-in_err-save-clause-failure
returns-in_err-save-clause-failure g c =
    let old = g.S.Space.seen c.args.space.now in
    let a = g.S.Space.seen c.find.new.space in
    let b = g.S.Space.seen c.drop_all.new.space in
    let new = g.S.Space.seen c.save.new.space in
    let p = err_from_is_err_and c.from_residual-in_err-save.result c.from_residual-in_err-save.ensures.1 in
    let x = c.in-Some.onode in
    let root = x.base.0 in
    let did = c.in_ok-drop_all.ensures in
    let f = c.in_err-save.ensures in
    rw (p.1, p.2) (save_fails Attributes old a b c.in_ok-onode.ensures.reads c.args.name.now x (rw c.in-Some.is at c.in_ok-onode.ensures.found) new Any emptied
    (turns_emptied Attributes x a b root (λ small. refl) did.gone did.footprint)
    did.notes (omega (arith, did.next)) (omega (arith, did.next)) f.next.0 c.in_err-save.field-0.0 f.failure)

pub returns-in_err-save-clause-call : goal.returns-in_err-save-clause-call
returns-in_err-save-clause-call g c =
    let p = err_from_is_err_and c.from_residual-in_err-save.result c.from_residual-in_err-save.ensures.1 in
    rw (p.1, p.2) (call_then g.S.Space g.met.S.Space.frame (call_then g.S.Space g.met.S.Space.frame c.in_ok-onode.ensures.call c.in_ok-drop_all.ensures.call) c.in_err-save.ensures.call)

pub returns-clause-ends : goal.returns-clause-ends
returns-clause-ends g c =
    let old = g.S.Space.seen c.args.space.now in
    let a = g.S.Space.seen c.find.new.space in
    let b = g.S.Space.seen c.drop_all.new.space in
    let new = g.S.Space.seen c.save.new.space in
    let name = c.args.name.now in
    let x = c.in-Some.onode in
    let y : Onode = record x { attrs = 0 } in
    let root = x.base.0 in
    let gone = c.in_ok-drop_all.ensures in
    let did = c.in_ok-save.ensures in
    let reads = c.in_ok-onode.ensures.reads in
    turns_done (RmAttrs name) name Attributes Any emptied Nothing (clears_attributes name) a b new x y
    (record { base = refl; size = refl }) refl (omega (arith, gone.next)) did.next.0 (omega (arith, gone.next, c.requires.room, reads.next))
    (turns_emptied Attributes x a b root (λ small. refl) gone.gone gone.footprint)
    did.changed did.footprint.own did.notes old reads (rw c.in-Some.is at c.in_ok-onode.ensures.found) gone.notes
    (λ store next objects m o is told. (sym none_counted, omega arith))

pub returns-clause-call : goal.returns-clause-call
returns-clause-call g c = call_then g.S.Space g.met.S.Space.frame (call_then g.S.Space g.met.S.Space.frame c.in_ok-onode.ensures.call c.in_ok-drop_all.ensures.call) c.in_ok-save.ensures.call
