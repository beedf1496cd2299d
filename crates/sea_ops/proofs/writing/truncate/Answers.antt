use Rattle.std.proofs.Common.{ap, arith}
use Rattle.std.proofs.lemmas.Result.{err_from_is_err_and}
use Rattle.sea_base.proofs.Calling.{call_then}
use Rattle.sea_object.specs.declared.op.Op.TheVariants.{Truncate}
use Rattle.sea_object.specs.declared.reply.Item.TheVariants.{Unit as Nothing}
use Rattle.sea_object.specs.Answer as model
use Rattle.sea_object.specs.Answer.{resized}
use Rattle.sea_ops.specs.Opening.{IsFound}
use Rattle.sea_ops.proofs.Asked.{find_fails}
use Rattle.sea_ops.proofs.Turns.{no_object}
use Rattle.sea_ops.proofs.Writes.{begins_found, opened_by_find, resizes, resize_fails}
use Rattle.sea_ops.proofs.Written.{cut_writes, truncates}
use Rattle.sea_ops.proofs.writing.truncate.Goals as goal

pub returns-in_err-onode-clause-failure : goal.returns-in_err-onode-clause-failure
returns-in_err-onode-clause-failure g c =
    let p = err_from_is_err_and c.from_residual.result c.from_residual.ensures.1 in
    rw (p.1, p.2) (λ store next objects m few. find_fails c.args.name.now (g.S.Space.seen c.args.space.now) (g.S.Space.seen c.find.new.space) c.in_err-onode.field-0.0 c.in_err-onode.ensures.reads c.in_err-onode.ensures.fault store next objects m)

pub returns-in_default-clause-ends : goal.returns-in_default-clause-ends
returns-in_default-clause-ends g c =
    let op = Truncate c.args.name.now c.args.size in
    no_object (g.S.Space.seen c.args.space.now) (g.S.Space.seen c.find.new.space) c.in_ok-onode.ensures.reads op c.args.name.now (rw c.in_default.is at c.in_ok-onode.ensures.found)
    (λ objects none. ap (model.refusal_at op) none)

pub returns-in_err-cut-clause-call : goal.returns-in_err-cut-clause-call
returns-in_err-cut-clause-call g c =
    let p = err_from_is_err_and c.from_residual-in_err-cut.result c.from_residual-in_err-cut.ensures.1 in
    rw (p.1, p.2) (call_then g.S.Space g.met.S.Space.frame c.in_ok-onode.ensures.call c.in_err-cut.ensures.call)

pub returns-in_err-save-clause-failure : goal.returns-in_err-save-clause-failure
returns-in_err-save-clause-failure g c =
    let old = g.S.Space.seen c.args.space.now in
    let a = g.S.Space.seen c.find.new.space in
    let b = g.S.Space.seen c.cut.new.space in
    let new = g.S.Space.seen c.save.new.space in
    let p = err_from_is_err_and c.from_residual-in_err-save.result c.from_residual-in_err-save.ensures.1 in
    let name = c.args.name.now in
    let size = c.args.size in
    let x = c.in-Some.onode in
    let did = c.in_ok-cut.ensures in
    let f = c.in_err-save.ensures in
    let reads = c.in_ok-onode.ensures.reads in
    let is : IsFound name x old a = record { reads = reads; found = rw c.in-Some.is at c.in_ok-onode.ensures.found } in
    rw (p.1, p.2) (resize_fails name x size (resized size) old a b new (begins_found name x old a is) (omega (arith, c.requires.room, reads.next))
    (cut_writes x size a b c.requires.range did.changed did.form did.footprint did.next) f.next.0 c.in_err-save.field-0.0
    (λ notes store next objects m. (opened_by_find name x old a new notes store next objects m is).0) f.failure)

pub returns-in_err-save-clause-call : goal.returns-in_err-save-clause-call
returns-in_err-save-clause-call g c =
    let p = err_from_is_err_and c.from_residual-in_err-save.result c.from_residual-in_err-save.ensures.1 in
    rw (p.1, p.2) (call_then g.S.Space g.met.S.Space.frame (call_then g.S.Space g.met.S.Space.frame c.in_ok-onode.ensures.call c.in_ok-cut.ensures.call) c.in_err-save.ensures.call)

pub returns-clause-ends : goal.returns-clause-ends
returns-clause-ends g c =
    let old = g.S.Space.seen c.args.space.now in
    let a = g.S.Space.seen c.find.new.space in
    let b = g.S.Space.seen c.cut.new.space in
    let new = g.S.Space.seen c.save.new.space in
    let name = c.args.name.now in
    let size = c.args.size in
    let x = c.in-Some.onode in
    let cut = c.in_ok-cut.ensures in
    let did = c.in_ok-save.ensures in
    let reads = c.in_ok-onode.ensures.reads in
    let is : IsFound name x old a = record { reads = reads; found = rw c.in-Some.is at c.in_ok-onode.ensures.found } in
    let writes = cut_writes x size a b c.requires.range cut.changed cut.form cut.footprint cut.next in
    resizes name x size (resized size) old a b new (begins_found name x old a is) (omega (arith, c.requires.room, reads.next)) writes did.next.0
    (Truncate name size) Nothing did.notes
    (λ store next objects m.
    let o = opened_by_find name x old a new (λ at f e. did.notes at f (writes.notes at f e)) store next objects m is in
    (o.0, truncates name size objects o.0.object o.1))
    did.changed did.footprint.own

pub returns-clause-call : goal.returns-clause-call
returns-clause-call g c = call_then g.S.Space g.met.S.Space.frame (call_then g.S.Space g.met.S.Space.frame c.in_ok-onode.ensures.call c.in_ok-cut.ensures.call) c.in_ok-save.ensures.call
