use Rattle.std.proofs.Common.{◌≡◌, ℕ, ◌+◌, ◌%◌, ◌≤◌, ◌^◌, cond, Some, refl, sym, ap, subst, ◌∙◌, arith}
use Rattle.std.proofs.lemmas.Result.{err_from_is_err_and}
use Rattle.std.specs.FinMap as map
use Rattle.sea_base.proofs.Calling.{call_then}
use Rattle.sea_base.proofs.Spaces.{only_read-trans}
use Rattle.sea_object.specs.declared.op.Op.TheVariants.{SetAttr}
use Rattle.sea_object.specs.declared.reply.Item.TheVariants.{Unit as Nothing}
use Rattle.sea_object.specs.Answer as model
use Rattle.sea_ops.proofs.Asked.{find_fails}
use Rattle.sea_ops.proofs.Parts.{Attributes}
use Rattle.sea_ops.proofs.Taking.{found_at}
use Rattle.sea_ops.proofs.Turns.{turns_once, turns_done, no_object, object_since}
use Rattle.sea_ops.proofs.TurnFails.{failed_once, turn_fails, save_fails}
use Rattle.sea_ops.proofs.Putting.{is_absent, finds_later, with_pair, puts_attribute, put_notes, more_counted, attributes_full, look_fails, may_then}
use Rattle.sea_ops.proofs.attributes.set_attr.Goals as goal

pub returns-in_err-onode-clause-failure : goal.returns-in_err-onode-clause-failure
returns-in_err-onode-clause-failure g c =
    let p = err_from_is_err_and c.from_residual.result c.from_residual.ensures.1 in
    rw (p.1, p.2) (λ store next objects m few. find_fails c.args.name.now (g.S.Space.seen c.args.space.now) (g.S.Space.seen c.find.new.space) c.in_err-onode.field-0.0 c.in_err-onode.ensures.reads c.in_err-onode.ensures.fault store next objects m)

pub returns-in_default-clause-ends : goal.returns-in_default-clause-ends
returns-in_default-clause-ends g c =
    let op = SetAttr c.args.name.now c.args.key.now c.args.value.now in
    no_object (g.S.Space.seen c.args.space.now) (g.S.Space.seen c.find.new.space) c.in_ok-onode.ensures.reads op c.args.name.now (rw c.in_default.is at c.in_ok-onode.ensures.found)
    (λ objects none. ap (model.refusal_at op) none)

pub returns-in_err-may_have-clause-failure : goal.returns-in_err-may_have-clause-failure
returns-in_err-may_have-clause-failure g c =
    let p = err_from_is_err_and c.from_residual-in_err-may_have.result c.from_residual-in_err-may_have.ensures.1 in
    rw (p.1, p.2) (λ store next objects m few. look_fails (g.S.Space.seen c.args.space.now) (g.S.Space.seen c.find.new.space) (g.S.Space.seen c.may_have.new.space) c.in_ok-onode.ensures.reads c.in_err-may_have.ensures.reads c.args.name.now c.args.key.now c.args.value.now c.in-Some.onode (rw c.in-Some.is at c.in_ok-onode.ensures.found) c.in_err-may_have.field-0.0 c.in_err-may_have.ensures.fault store next objects m)

pub returns-in_err-may_have-clause-call : goal.returns-in_err-may_have-clause-call
returns-in_err-may_have-clause-call g c =
    let p = err_from_is_err_and c.from_residual-in_err-may_have.result c.from_residual-in_err-may_have.ensures.1 in
    rw (p.1, p.2) (call_then g.S.Space g.met.S.Space.frame c.in_ok-onode.ensures.call c.in_err-may_have.ensures.call)

pub returns-then-not-branch-clause-ends : goal.returns-then-not-branch-clause-ends
returns-then-not-branch-clause-ends g c =
    attributes_full (g.S.Space.seen c.args.space.now) (g.S.Space.seen c.find.new.space) (g.S.Space.seen c.may_have.new.space) c.in_ok-onode.ensures.reads c.in_ok-may_have.ensures.reads c.args.name.now c.args.key.now c.args.value.now c.in-Some.onode (rw c.in-Some.is at c.in_ok-onode.ensures.found)
    (λ store content m. let told = c.in_ok-may_have.ensures.told store content m in let is = c.if-not-branch.true in cc)

pub returns-then-not-branch-clause-call : goal.returns-then-not-branch-clause-call
returns-then-not-branch-clause-call g c = call_then g.S.Space g.met.S.Space.frame c.in_ok-onode.ensures.call c.in_ok-may_have.ensures.call

pub returns-in_err-old-clause-failure : goal.returns-in_err-old-clause-failure
returns-in_err-old-clause-failure g c =
    let p = err_from_is_err_and c.from_residual-in_err-old.result c.from_residual-in_err-old.ensures.1 in
    let f = c.in_err-old.ensures in
    let a = g.S.Space.seen c.may_have.new.space in
    let b = g.S.Space.seen c.put.new.space in
    let x = c.in-Some.onode in
    rw (p.1, p.2) (turn_fails Attributes (g.S.Space.seen c.args.space.now) a b (only_read-trans c.in_ok-onode.ensures.reads c.in_ok-may_have.ensures.reads) c.args.name.now x (finds_later (g.S.Space.seen c.args.space.now) (g.S.Space.seen c.find.new.space) (g.S.Space.seen c.may_have.new.space) c.args.name.now (Some c.in-Some.onode) c.in_ok-may_have.ensures.reads (rw c.in-Some.is at c.in_ok-onode.ensures.found)) c.in_err-old.field-0.0 f.next.0 (failed_once Attributes x x.base.0 c.args.key.now a b c.in_err-old.field-0.0 (λ small. refl) f.failure))

pub returns-in_err-old-clause-call : goal.returns-in_err-old-clause-call
returns-in_err-old-clause-call g c =
    let p = err_from_is_err_and c.from_residual-in_err-old.result c.from_residual-in_err-old.ensures.1 in
    rw (p.1, p.2) (call_then g.S.Space g.met.S.Space.frame (call_then g.S.Space g.met.S.Space.frame c.in_ok-onode.ensures.call c.in_ok-may_have.ensures.call) c.in_err-old.ensures.call)

pub returns-in_err-save-clause-failure : goal.returns-in_err-save-clause-failure
returns-in_err-save-clause-failure g c =
    let old = g.S.Space.seen c.args.space.now in
    let a = g.S.Space.seen c.may_have.new.space in
    let b = g.S.Space.seen c.put.new.space in
    let new = g.S.Space.seen c.save.new.space in
    let p = err_from_is_err_and c.from_residual-in_err-save.result c.from_residual-in_err-save.ensures.1 in
    let put = c.in_ok-old.ensures in
    let f = c.in_err-save.ensures in
    let x = c.in-Some.onode in
    let told = found_at c.args.key.now c.in_ok-old.old in
    let turn = with_pair c.args.key.now c.args.value.now in
    rw (p.1, p.2) (save_fails Attributes old a b (only_read-trans c.in_ok-onode.ensures.reads c.in_ok-may_have.ensures.reads) c.args.name.now x (finds_later (g.S.Space.seen c.args.space.now) (g.S.Space.seen c.find.new.space) (g.S.Space.seen c.may_have.new.space) c.args.name.now (Some c.in-Some.onode) c.in_ok-may_have.ensures.reads (rw c.in-Some.is at c.in_ok-onode.ensures.found)) new told turn (turns_once Attributes x told turn a b x.base.0 (λ small. refl) put.changed put.footprint.own) (put_notes a b c.in-Some.onode.base.0 c.args.key.now c.args.value.now put.form) put.next.0 put.next.1 f.next.0 c.in_err-save.field-0.0 f.failure)

pub returns-in_err-save-clause-call : goal.returns-in_err-save-clause-call
returns-in_err-save-clause-call g c =
    let p = err_from_is_err_and c.from_residual-in_err-save.result c.from_residual-in_err-save.ensures.1 in
    rw (p.1, p.2) (call_then g.S.Space g.met.S.Space.frame (call_then g.S.Space g.met.S.Space.frame (call_then g.S.Space g.met.S.Space.frame c.in_ok-onode.ensures.call c.in_ok-may_have.ensures.call) c.in_ok-old.ensures.call) c.in_err-save.ensures.call)

pub returns-clause-ends : goal.returns-clause-ends
returns-clause-ends g c =
    let mid = g.S.Space.seen c.find.new.space in
    let old = g.S.Space.seen c.args.space.now in
    let a = g.S.Space.seen c.may_have.new.space in
    let b = g.S.Space.seen c.put.new.space in
    let new = g.S.Space.seen c.save.new.space in
    let name = c.args.name.now in
    let key = c.args.key.now in
    let value = c.args.value.now in
    let x = c.in-Some.onode in
    let put = c.in_ok-old.ensures in
    let did = c.in_ok-save.ensures in
    let y_is = c.with_more-more.ensures in
    let finds = (finds_later (g.S.Space.seen c.args.space.now) (g.S.Space.seen c.find.new.space) (g.S.Space.seen c.may_have.new.space) c.args.name.now (Some c.in-Some.onode) c.in_ok-may_have.ensures.reads (rw c.in-Some.is at c.in_ok-onode.ensures.found)) in
    let reads = (only_read-trans c.in_ok-onode.ensures.reads c.in_ok-may_have.ensures.reads) in
    let told = found_at key c.in_ok-old.old in
    let turn = with_pair key value in
    let noted = put_notes a b x.base.0 key value put.form in
    turns_done (SetAttr name key value) name Attributes told turn Nothing (puts_attribute name key value c.in_ok-old.old) a b new x c.with_more-more.result
    (record { base = sym (ap (λ o. o.base.0) y_is); size = sym (ap (λ o. o.size) y_is) }) (ap (λ o. o.keys) y_is) put.next.0 did.next.0 (omega (arith, put.next.1, c.requires.room, reads.next)) (turns_once Attributes x told turn a b x.base.0 (λ small. refl) put.changed put.footprint.own) did.changed did.footprint.own did.notes
    old reads finds noted
    (λ store next objects m o is found.
    let here = object_since old a new reads name x finds (λ at f e. did.notes at f (noted at f e)) store next objects m in
    subst (λ (n : ℕ). (n ≡ map.len (map.insert o.attributes key value)) × (n ≤ 64)) (sym (ap (λ o. o.attrs) y_is ∙ ap (λ t. cond t ((x.attrs + 1) % 2 ^ 32) x.attrs) (is_absent c.in_ok-old.old c.is_none.result c.is_none.ensures))) (more_counted x key value c.in_ok-old.old o.attributes is.attrs here.order.attrs found (may_then old mid a new c.in_ok-onode.ensures.reads c.in_ok-may_have.ensures.reads key x (λ s content meets. let told = c.in_ok-may_have.ensures.told s content meets in let yes_it_is = c.if-not-branch.false in cc) (λ at f e. did.notes at f (noted at f e)) store next objects m o is)))

pub returns-clause-call : goal.returns-clause-call
returns-clause-call g c = call_then g.S.Space g.met.S.Space.frame (call_then g.S.Space g.met.S.Space.frame (call_then g.S.Space g.met.S.Space.frame c.in_ok-onode.ensures.call c.in_ok-may_have.ensures.call) c.in_ok-old.ensures.call) c.in_ok-save.ensures.call
