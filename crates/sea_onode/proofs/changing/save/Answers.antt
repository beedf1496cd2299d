use Rattle.std.proofs.Common.{length, ap, sym, ◌∙◌, arith, refl}
use Rattle.std.proofs.lemmas.Bool.{false≢true}
use Rattle.std.proofs.lemmas.Result.{err_from_is_err_and}
use Rattle.sea_base.proofs.Calling.{call_then}
use Rattle.sea_tree.proofs.Puts.{path_fails, read_footprint}
use Rattle.sea_onode.proofs.Spelling.{length-onode_bytes}
use Rattle.sea_onode.proofs.Saving.{saves_same, saves_put, agrees_mid, footprint_since, failure_since, form_same, form_put, notes_put}
use Rattle.sea_onode.proofs.changing.save.Goals as goal
use Rattle.std.proofs.Common.{Some}

pub returns-in_err-old-clause-failure : goal.returns-in_err-old-clause-failure
returns-in_err-old-clause-failure g c =
    let p = err_from_is_err_and c.from_residual-in_err-old.result c.from_residual-in_err-old.ensures.1 in
    rw (p.1, p.2) (path_fails 1 c.args.name.now (g.S.Space.seen c.args.space.now) (g.S.Space.seen c.get.new.space) c.in_err-old.ensures.reads c.in_err-old.field-0.0 c.in_err-old.ensures.fault)

pub returns-then-is_value-clause-changed : goal.returns-then-is_value-clause-changed
returns-then-is_value-clause-changed g c store onodes m =
    saves_same (g.S.Space.seen c.args.space.now) (g.S.Space.seen c.get.new.space) c.in_ok-old.ensures.reads store onodes c.args.name.now c.in_ok-value.value c.args.onode.now m
    (λ content meets. sym (c.if-is_value.ensures.0 refl) ∙ c.in_ok-old.ensures.value store content meets) c.in_ok-value.ensures

pub returns-then-is_value-clause-form : goal.returns-then-is_value-clause-form
returns-then-is_value-clause-form g c store onodes m =
    form_same (g.S.Space.seen c.args.space.now) (g.S.Space.seen c.get.new.space) c.args.name.now c.in_ok-value.value c.args.onode.now c.in_ok-old.ensures.reads c.in_ok-old.ensures.within store onodes m
    (sym (c.if-is_value.ensures.0 refl) ∙ c.in_ok-old.ensures.value store m.onodes.content (record { agrees = m.agrees; content = m.onodes.tree; fresh = m.fresh })) c.in_ok-value.ensures

pub returns-then-is_value-clause-footprint : goal.returns-then-is_value-clause-footprint
returns-then-is_value-clause-footprint g c =
    read_footprint 1 c.args.name.now (g.S.Space.seen c.args.space.now) (g.S.Space.seen c.get.new.space) c.in_ok-old.ensures.reads c.in_ok-old.ensures.whole c.in_ok-old.ensures.within

pub put-requires-clause-value : goal.put-requires-clause-value
put-requires-clause-value g c = omega (arith, ap length c.in_ok-value.ensures.spelled, length-onode_bytes c.args.onode.now)

pub returns-in_err-put-clause-failure : goal.returns-in_err-put-clause-failure
returns-in_err-put-clause-failure g c =
    let p = err_from_is_err_and c.from_residual-in_err-put.result c.from_residual-in_err-put.ensures.1 in
    rw (p.1, p.2) (failure_since (g.S.Space.seen c.args.space.now) (g.S.Space.seen c.get.new.space) (g.S.Space.seen c.put.new.space) c.in_ok-old.ensures.reads c.args.name.now c.in_err-put.field-0.0 c.in_err-put.ensures.failure)

pub returns-in_err-put-clause-call : goal.returns-in_err-put-clause-call
returns-in_err-put-clause-call g c =
    let p = err_from_is_err_and c.from_residual-in_err-put.result c.from_residual-in_err-put.ensures.1 in
    rw (p.1, p.2) (call_then g.S.Space g.met.S.Space.frame c.in_ok-old.ensures.call c.in_err-put.ensures.call)

pub returns-clause-changed : goal.returns-clause-changed
returns-clause-changed g c store onodes m =
    saves_put (g.S.Space.seen c.args.space.now) (g.S.Space.seen c.get.new.space) (g.S.Space.seen c.put.new.space) c.in_ok-old.ensures.reads store onodes c.args.name.now c.in_ok-value.value c.args.onode.now
    (omega (arith, c.in_ok-old.ensures.reads.next, c.in_ok-put.ensures.next.0)) m (λ content meets. (c.in_ok-put.ensures.changed store content meets).1) c.in_ok-value.ensures

pub returns-clause-form : goal.returns-clause-form
returns-clause-form g c store onodes m =
    form_put (g.S.Space.seen c.args.space.now) (g.S.Space.seen c.get.new.space) (g.S.Space.seen c.put.new.space) c.args.name.now c.in_ok-value.value c.args.onode.now c.in_ok-old.ensures.reads c.in_ok-old.ensures.within c.in_ok-put.ensures.form store onodes m c.in_ok-value.ensures
    c.in_ok-old.old (λ content meets. c.in_ok-old.ensures.value store content meets) (λ same. false≢true (c.if-is_value.ensures.1 same))

pub returns-clause-footprint : goal.returns-clause-footprint
returns-clause-footprint g c =
    footprint_since (g.S.Space.seen c.args.space.now) (g.S.Space.seen c.get.new.space) (g.S.Space.seen c.put.new.space) c.in_ok-old.ensures.reads c.args.name.now
    (agrees_mid (g.S.Space.seen c.args.space.now) (g.S.Space.seen c.get.new.space) (g.S.Space.seen c.put.new.space) c.in_ok-old.ensures.reads c.args.name.now (Some c.in_ok-value.value) c.in_ok-value.value c.in_ok-put.ensures.form)
    c.in_ok-old.ensures.within c.in_ok-put.ensures.footprint

pub returns-clause-call : goal.returns-clause-call
returns-clause-call g c = call_then g.S.Space g.met.S.Space.frame c.in_ok-old.ensures.call c.in_ok-put.ensures.call

pub returns-then-is_value-clause-notes : goal.returns-then-is_value-clause-notes
returns-then-is_value-clause-notes g c = c.in_ok-old.ensures.reads.noted

pub returns-clause-notes : goal.returns-clause-notes
returns-clause-notes g c =
    notes_put (g.S.Space.seen c.args.space.now) (g.S.Space.seen c.get.new.space) (g.S.Space.seen c.put.new.space) c.in_ok-old.ensures.reads c.args.name.now (Some c.in_ok-value.value) c.in_ok-value.value c.in_ok-put.ensures.form
