use Rattle.std.proofs.Common.{Some, None, refl, ap}
use Rattle.std.proofs.lemmas.Result.{err_from_is_err_and}
use Rattle.std.specs.FinMap as map
use Rattle.sea_base.specs.Space.{laid}
use Rattle.sea_base.proofs.Spaces.{only_read-refl}
use Rattle.sea_object.specs.declared.op.Op.TheVariants.{Stat}
use Rattle.sea_object.specs.declared.reply.Item.TheVariants.{Number, Absent}
use Rattle.sea_ops.proofs.Asked.{find_fails, asks, absent, told, found, sized}
use Rattle.sea_ops.proofs.asking.stat.Goals as goal

pub returns-in-Some-clause-does : goal.returns-in-Some-clause-does
returns-in-Some-clause-does g c =
    let old = g.S.Space.seen c.args.space.now in
    let new = g.S.Space.seen c.find.new.space in
    let name = c.args.name.now in
    asks (Stat name) (Number c.in-Some.onode.size) old new c.in_ok-onode.ensures.reads (λ objects. refl) refl (λ o. refl)
    (λ store next objects m.
    told (Stat name) (Number c.in-Some.onode.size) (laid old store) c.in-Some.onode (map.get objects name)
    (found store next objects old new new c.in_ok-onode.ensures.reads (only_read-refl new) m name (Some c.in-Some.onode) (rw c.in-Some.is at c.in_ok-onode.ensures.found))
    (λ o is. ap Number (sized (laid old store) c.in-Some.onode o is)))

pub returns-in-None-clause-does : goal.returns-in-None-clause-does
returns-in-None-clause-does g c =
    let old = g.S.Space.seen c.args.space.now in
    let new = g.S.Space.seen c.find.new.space in
    let name = c.args.name.now in
    asks (Stat name) Absent old new c.in_ok-onode.ensures.reads (λ objects. refl) refl (λ o. refl)
    (λ store next objects m.
    absent (Stat name) (laid old store) (map.get objects name)
    (found store next objects old new new c.in_ok-onode.ensures.reads (only_read-refl new) m name None (rw c.in-None.is at c.in_ok-onode.ensures.found)))

pub returns-in_err-onode-clause-failure : goal.returns-in_err-onode-clause-failure
returns-in_err-onode-clause-failure g c =
    let p = err_from_is_err_and c.from_residual.result c.from_residual.ensures.1 in
    rw (p.1, p.2) (find_fails c.args.name.now (g.S.Space.seen c.args.space.now) (g.S.Space.seen c.find.new.space) c.in_err-onode.field-0.0 c.in_err-onode.ensures.reads c.in_err-onode.ensures.fault)
