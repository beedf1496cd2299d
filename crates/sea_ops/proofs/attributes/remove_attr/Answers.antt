use Rattle.std.proofs.Common.{◌≡◌, ℕ, ◌-◌, ◌≤◌, cond, refl, sym, ap, subst, ◌∙◌, arith}
use Rattle.std.proofs.lemmas.Result.{err_from_is_err_and}
use Rattle.std.specs.FinMap as map
use Rattle.sea_base.proofs.Calling.{call_then}
use Rattle.sea_object.specs.declared.op.Op.TheVariants.{RmAttr}
use Rattle.sea_object.specs.declared.reply.Item.TheVariants.{Unit as Nothing}
use Rattle.sea_object.specs.Answer as model
use Rattle.sea_ops.proofs.Asked.{find_fails}
use Rattle.sea_ops.proofs.Parts.{Attributes}
use Rattle.sea_ops.proofs.Taking.{found_at, taken, takes_attribute, fewer_counted, removed_notes}
use Rattle.sea_ops.proofs.Turns.{turns_once, turns_done, no_object, object_since}
use Rattle.sea_ops.proofs.TurnFails.{failed_once, turn_fails, save_fails}
use Rattle.sea_ops.proofs.attributes.remove_attr.Goals as goal

pub returns-in_err-onode-clause-failure : goal.returns-in_err-onode-clause-failure
returns-in_err-onode-clause-failure g c =
    let p = err_from_is_err_and c.from_residual.result c.from_residual.ensures.1 in
    rw (p.1, p.2) (λ store next objects m few. find_fails c.args.name.now (g.S.Space.seen c.args.space.now) (g.S.Space.seen c.find.new.space) c.in_err-onode.field-0.0 c.in_err-onode.ensures.reads c.in_err-onode.ensures.fault store next objects m)

pub returns-in_default-clause-ends : goal.returns-in_default-clause-ends
returns-in_default-clause-ends g c =
    no_object (g.S.Space.seen c.args.space.now) (g.S.Space.seen c.find.new.space) c.in_ok-onode.ensures.reads (RmAttr c.args.name.now c.args.key.now) c.args.name.now (rw c.in_default.is at c.in_ok-onode.ensures.found)
    (λ objects none. ap (model.refusal_at (RmAttr c.args.name.now c.args.key.now)) none)

pub returns-in_err-old-clause-failure : goal.returns-in_err-old-clause-failure
returns-in_err-old-clause-failure g c =
    let p = err_from_is_err_and c.from_residual-in_err-old.result c.from_residual-in_err-old.ensures.1 in
    let f = c.in_err-old.ensures in
    let a = g.S.Space.seen c.find.new.space in
    let b = g.S.Space.seen c.del.new.space in
    rw (p.1, p.2) (turn_fails Attributes (g.S.Space.seen c.args.space.now) a b c.in_ok-onode.ensures.reads c.args.name.now c.in-Some.onode (rw c.in-Some.is at c.in_ok-onode.ensures.found) c.in_err-old.field-0.0 f.next.0 (failed_once Attributes c.in-Some.onode c.in-Some.onode.base.0 c.args.key.now a b c.in_err-old.field-0.0 (λ small. refl) f.failure))

pub returns-in_err-old-clause-call : goal.returns-in_err-old-clause-call
returns-in_err-old-clause-call g c =
    let p = err_from_is_err_and c.from_residual-in_err-old.result c.from_residual-in_err-old.ensures.1 in
    rw (p.1, p.2) (call_then g.S.Space g.met.S.Space.frame c.in_ok-onode.ensures.call c.in_err-old.ensures.call)

pub returns-in_err-save-clause-failure : goal.returns-in_err-save-clause-failure
returns-in_err-save-clause-failure g c =
    let old = g.S.Space.seen c.args.space.now in
    let a = g.S.Space.seen c.find.new.space in
    let b = g.S.Space.seen c.del.new.space in
    let new = g.S.Space.seen c.save.new.space in
    let p = err_from_is_err_and c.from_residual-in_err-save.result c.from_residual-in_err-save.ensures.1 in
    let del = c.in_ok-old.ensures in
    let f = c.in_err-save.ensures in
    let told = found_at c.args.key.now c.in_ok-old.old in
    let turn = taken c.args.key.now in
    rw (p.1, p.2) (save_fails Attributes old a b c.in_ok-onode.ensures.reads c.args.name.now c.in-Some.onode (rw c.in-Some.is at c.in_ok-onode.ensures.found) new told turn (turns_once Attributes c.in-Some.onode told turn a b c.in-Some.onode.base.0 (λ small. refl) del.changed del.footprint.own) (removed_notes a b c.in-Some.onode.base.0 c.args.key.now c.in_ok-old.old del.form) del.next.0 del.next.1 f.next.0 c.in_err-save.field-0.0 f.failure)

pub returns-in_err-save-clause-call : goal.returns-in_err-save-clause-call
returns-in_err-save-clause-call g c =
    let p = err_from_is_err_and c.from_residual-in_err-save.result c.from_residual-in_err-save.ensures.1 in
    rw (p.1, p.2) (call_then g.S.Space g.met.S.Space.frame (call_then g.S.Space g.met.S.Space.frame c.in_ok-onode.ensures.call c.in_ok-old.ensures.call) c.in_err-save.ensures.call)

pub returns-clause-ends : goal.returns-clause-ends
returns-clause-ends g c =
    let old = g.S.Space.seen c.args.space.now in
    let a = g.S.Space.seen c.find.new.space in
    let b = g.S.Space.seen c.del.new.space in
    let new = g.S.Space.seen c.save.new.space in
    let name = c.args.name.now in
    let key = c.args.key.now in
    let x = c.in-Some.onode in
    let del = c.in_ok-old.ensures in
    let did = c.in_ok-save.ensures in
    let y_is = c.with_fewer-fewer.ensures in
    let finds = rw c.in-Some.is at c.in_ok-onode.ensures.found in
    let reads = c.in_ok-onode.ensures.reads in
    let told = found_at key c.in_ok-old.old in
    let turn = taken key in
    let noted = removed_notes a b x.base.0 key c.in_ok-old.old del.form in
    turns_done (RmAttr name key) name Attributes told turn Nothing (takes_attribute name key c.in_ok-old.old) a b new x c.with_fewer-fewer.result
    (record { base = sym (ap (λ o. o.base.0) y_is); size = sym (ap (λ o. o.size) y_is) }) (ap (λ o. o.keys) y_is) del.next.0 did.next.0 (omega (arith, del.next.1, c.requires.room, reads.next)) (turns_once Attributes x told turn a b x.base.0 (λ small. refl) del.changed del.footprint.own) did.changed did.footprint.own did.notes
    old reads finds noted
    (λ store next objects m o is found.
    let here = object_since old a new reads name x finds (λ at f e. did.notes at f (noted at f e)) store next objects m in
    subst (λ (n : ℕ). (n ≡ map.len (map.remove o.attributes key)) × (n ≤ 64)) (sym (ap (λ o. o.attrs) y_is ∙ ap (λ t. cond t (x.attrs - 1) x.attrs) c.is_some.ensures)) (fewer_counted x key c.in_ok-old.old o.attributes is.attrs here.order.attrs found))

pub returns-clause-call : goal.returns-clause-call
returns-clause-call g c = call_then g.S.Space g.met.S.Space.frame (call_then g.S.Space g.met.S.Space.frame c.in_ok-onode.ensures.call c.in_ok-old.ensures.call) c.in_ok-save.ensures.call
