use Rattle.std.proofs.Common.{Some, None, refl, ap, ◌∙◌, [], ◌∷◌}
use Rattle.std.proofs.lemmas.Result.{err_from_is_err_and}
use Rattle.std.specs.FinMap as map
use Rattle.sea_base.specs.Space.{laid}
use Rattle.sea_base.proofs.Calling.{call_then}
use Rattle.sea_base.proofs.Spaces.{only_read-refl, only_read-trans}
use Rattle.sea_object.specs.declared.op.Op.TheVariants.{GetAttrs}
use Rattle.sea_object.specs.declared.reply.Item.TheVariants.{Absent, Pairs}
use Rattle.sea_ops.proofs.Asked.{all_attributes, find_fails, object_fails, range_fails, asks, absent, told, found, meets_tree}
use Rattle.sea_ops.proofs.asking.get_attrs.Goals as goal

pub returns-in-None-clause-does : goal.returns-in-None-clause-does
returns-in-None-clause-does g c =
    let old = g.S.Space.seen c.args.space.now in
    let new = g.S.Space.seen c.find.new.space in
    let name = c.args.name.now in
    asks (GetAttrs name) Absent old new c.in_ok-onode.ensures.reads (λ objects. refl) refl (λ o. refl)
    (λ store next objects m.
    absent (GetAttrs name) (laid old store) (map.get objects name)
    (found store next objects old new new c.in_ok-onode.ensures.reads (only_read-refl new) m name None (rw c.in-None.is at c.in_ok-onode.ensures.found)))

pub returns-in_err-pairs-in-Some-clause-call : goal.returns-in_err-pairs-in-Some-clause-call
returns-in_err-pairs-in-Some-clause-call g c =
    let p = err_from_is_err_and c.from_residual-in_err-pairs-in-Some.result c.from_residual-in_err-pairs-in-Some.ensures.1 in
    rw (p.1, p.2) (call_then g.S.Space g.met.S.Space.frame c.in_ok-onode.ensures.call c.in_err-pairs-in-Some.ensures.call)

pub returns-in_err-pairs-in-Some-clause-reads : goal.returns-in_err-pairs-in-Some-clause-reads
returns-in_err-pairs-in-Some-clause-reads g c = only_read-trans c.in_ok-onode.ensures.reads c.in_err-pairs-in-Some.ensures.reads

pub returns-in_ok-pairs-in-Some-clause-reads : goal.returns-in_ok-pairs-in-Some-clause-reads
returns-in_ok-pairs-in-Some-clause-reads g c = only_read-trans c.in_ok-onode.ensures.reads c.in_ok-pairs-in-Some.ensures.reads

pub returns-in_ok-pairs-in-Some-clause-call : goal.returns-in_ok-pairs-in-Some-clause-call
returns-in_ok-pairs-in-Some-clause-call g c = call_then g.S.Space g.met.S.Space.frame c.in_ok-onode.ensures.call c.in_ok-pairs-in-Some.ensures.call

pub returns-in_ok-pairs-in-Some-clause-does : goal.returns-in_ok-pairs-in-Some-clause-does
returns-in_ok-pairs-in-Some-clause-does g c =
    let old = g.S.Space.seen c.args.space.now in
    let mid = g.S.Space.seen c.find.new.space in
    let new = g.S.Space.seen c.range.new.space in
    let name = c.args.name.now in
    let first = c.in_ok-onode.ensures.reads in
    let later = c.in_ok-pairs-in-Some.ensures.reads in
    let finds = rw c.in-Some.is at c.in_ok-onode.ensures.found in
    asks (GetAttrs name) (Pairs c.in_ok-pairs-in-Some.pairs) old new (only_read-trans first later) (λ objects. refl) refl (λ o. refl)
    (λ store next objects m.
    told (GetAttrs name) (Pairs c.in_ok-pairs-in-Some.pairs) (laid old store) c.in-Some.onode (map.get objects name)
    (found store next objects old mid new first later m name (Some c.in-Some.onode) finds)
    (λ o is. ap Pairs (c.in_ok-pairs-in-Some.ensures.pairs store o.attributes (meets_tree store next objects old mid new first later m c.in-Some.onode.base.0 o.attributes is.attributes) ∙ all_attributes store next objects old mid new first later m name c.in-Some.onode finds o is)))

pub returns-in_err-onode-clause-failure : goal.returns-in_err-onode-clause-failure
returns-in_err-onode-clause-failure g c =
    let p = err_from_is_err_and c.from_residual.result c.from_residual.ensures.1 in
    rw (p.1, p.2) (find_fails c.args.name.now (g.S.Space.seen c.args.space.now) (g.S.Space.seen c.find.new.space) c.in_err-onode.field-0.0 c.in_err-onode.ensures.reads c.in_err-onode.ensures.fault)

pub returns-in_err-pairs-in-Some-clause-failure : goal.returns-in_err-pairs-in-Some-clause-failure
returns-in_err-pairs-in-Some-clause-failure g c =
    let old = g.S.Space.seen c.args.space.now in
    let mid = g.S.Space.seen c.find.new.space in
    let new = g.S.Space.seen c.range.new.space in
    let name = c.args.name.now in
    let first = c.in_ok-onode.ensures.reads in
    let later = c.in_err-pairs-in-Some.ensures.reads in
    let finds = rw c.in-Some.is at c.in_ok-onode.ensures.found in
    let p = err_from_is_err_and c.from_residual-in_err-pairs-in-Some.result c.from_residual-in_err-pairs-in-Some.ensures.1 in
    rw (p.1, p.2) (λ store next objects m.
    object_fails c.in_err-pairs-in-Some.field-0.0 (laid old store) c.in-Some.onode (map.get objects name)
    (found store next objects old mid new first later m name (Some c.in-Some.onode) finds)
    (λ o is. range_fails c.in_err-pairs-in-Some.field-0.0 c.in-Some.onode.base.0 (0 ∷ []) o.attributes mid new store (meets_tree store next objects old mid new first later m c.in-Some.onode.base.0 o.attributes is.attributes) c.in_err-pairs-in-Some.ensures.fault))
